-- How a slice begins in the call on top.
use Rattle.std.specs.Prelude.{◌≡◌, ℕ, ◌-◌, ◌<◌, ◌≤◌, List, true}
use Rattle.cml_check.specs.Syntax.{PlainItem}
use Rattle.cml_check.specs.InOrder.{arities}
use Rattle.cml_step.specs.declared.ask.Ask.{Ask}
use Rattle.cml_step.specs.declared.ask.Ask.TheVariants as asks_of
use Rattle.cml_step.specs.declared.journal.Journal.{Journal}
use Rattle.cml_step.specs.declared.still.Begun.{Begun}
use Rattle.cml_step.specs.declared.still.Begun.TheVariants as begun
use Rattle.cml_step.specs.Agrees.{ask_agrees}
use Rattle.cml_step.specs.AskViews.{plain_ask}
use Rattle.cml_step.specs.Calls.{text_of}
use Rattle.cml_step.specs.Machines.{PlainHeld}
use Rattle.cml_step.specs.Slices.{GoesIn, sliced_from, max_steps}
use Rattle.cml_step.specs.Stacks.{StackFits, term_of}
use Rattle.cml_step.specs.Terms.{Program, Term}
use Rattle.cml_step.specs.Undone.{IsNotedStack}

-- So many steps went on, at most `most`; the stack is in order, and the journal has what it was before.
pub record GoesStill (p : List (PlainItem ℕ)) (most n : ℕ) (j : Journal) (a : Ask) (old new : List PlainHeld) : Type 0 where
  pub noted : IsNotedStack j new old
  pub asks : a ≡ asks_of.Nothing
  pub fits : StackFits p new
  pub within : n ≤ most
  pub goes : (self : ℕ) → GoesIn (text_of p) self n (term_of p old) (term_of p new)

-- The last of so many steps, at most `most`, asks something; the stack is in order, and the journal has what it was before.
pub record AsksStill (p : List (PlainItem ℕ)) (most n : ℕ) (j : Journal) (a : Ask) (old new : List PlainHeld) : Type 0 where
  pub noted : IsNotedStack j new old
  pub agrees : ask_agrees (arities p) (plain_ask a) ≡ true
  pub something : a ≡ asks_of.Nothing → ⊥
  pub fits : StackFits p new
  pub within : (0 < n) × (n ≤ most)
  pub meant : (self : ℕ) → sliced_from (text_of p) self most 0 (term_of p old) ≡ record { ask = plain_ask a; end = term_of p new; steps = n }

abbrev pub RunsStill : List (PlainItem ℕ) → ℕ → Begun → Journal → Ask → List PlainHeld → List PlainHeld → Type 0
RunsStill p most (begun.Goes n) j a old new = GoesStill p most n j a old new
RunsStill p most (begun.Asks n) j a old new = AsksStill p most n j a old new

-- The next steps of a slice, of which at most `most` are left, were so many; the last of them asks this, or nothing.
pub record Advances (p : Program) (self most n : ℕ) (a : Ask) (old new : Term) : Type 0 where
  pub within : (0 < n) × (n ≤ most)
  pub goes : a ≡ asks_of.Nothing → sliced_from p self most 0 old ≡ sliced_from p self (most - n) n new
  pub asks : (a ≡ asks_of.Nothing → ⊥) → sliced_from p self most 0 old ≡ record { ask = plain_ask a; end = new; steps = n }

-- So many steps of a slice went on, the stack is in order, and the spare is the stack before them.
pub record GoesSpared (p : List (PlainItem ℕ)) (n : ℕ) (a : Ask) (old new spare : List PlainHeld) : Type 0 where
  pub spare_is : spare ≡ old
  pub asks : a ≡ asks_of.Nothing
  pub fits : StackFits p new
  pub within : n ≤ max_steps
  pub goes : (self : ℕ) → GoesIn (text_of p) self n (term_of p old) (term_of p new)

abbrev pub BeginsSlice : List (PlainItem ℕ) → Begun → Journal → Ask → List PlainHeld → List PlainHeld → List PlainHeld → Type 0
BeginsSlice p (begun.Goes n) j a old new spare = GoesSpared p n a old new spare
BeginsSlice p (begun.Asks n) j a old new spare = AsksStill p max_steps n j a old new
