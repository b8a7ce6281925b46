-- Every text is read in one way.
use Rattle.std.proofs.Common.{◌≡◌, ℕ, ◌+◌, ◌⊎◌, List, [], ◌∷◌, Option, Some, None, Result, Err, refl, ap, sym, ◌∙◌, subst, inl, inr}
use Rattle.cml_text.specs.Forms.{PlainSexpr}
use Rattle.cml_text.specs.Faults.{PlainFault}
use Rattle.cml_text.specs.Lines.{lines}
use Rattle.cml_text.specs.Texts.{Spells, fault_of}
use Rattle.cml_text.specs.Laws.{SpelledOrFaulty, SpelledHasNoFault, SpellsOneAtMost}
use Rattle.cml_schedule.specs.declared.line.State.{State}
use Rattle.cml_schedule.specs.declared.line.State.TheVariants.{Opening}
use Rattle.cml_schedule.specs.Plans.{PlainPlan}
use Rattle.cml_schedule.specs.Lines.{after_line}
use Rattle.cml_schedule.specs.Reading.{LineFits, DoesNotFit, LeadsTo, at_end}
use Rattle.cml_schedule.specs.Laws.{HasOneReading}

-- a line fits, or it does not

fits_by_forms : (state : State) (line : List ℕ) (forms : List PlainSexpr) → Spells line forms → (next : Option State) → after_line state forms ≡ next →
    ((next : State) × LineFits state line next) ⊎ DoesNotFit state line
fits_by_forms state line forms spells (Some next) e = inl (next, (forms, spells, e))
fits_by_forms state line forms spells None e = inr (inr (forms, spells, e))

fits_by_fault : SpelledOrFaulty → (state : State) (line : List ℕ) (found : Option PlainFault) → fault_of line ≡ found →
    ((next : State) × LineFits state line next) ⊎ DoesNotFit state line
fits_by_fault law state line (Some fault) e = inr (inl (fault, e))
fits_by_fault law state line None e = let read = law line e in fits_by_forms state line read.0 read.1 (after_line state read.0) refl

-- some way to read these lines

leads_by : (n : ℕ) (state : State) (line : List ℕ) (behind : List (List ℕ)) → ((m : ℕ) (next : State) → (found : Result PlainPlan ℕ) × LeadsTo m next behind found) →
    ((next : State) × LineFits state line next) ⊎ DoesNotFit state line → (found : Result PlainPlan ℕ) × LeadsTo n state (line ∷ behind) found
leads_by n state line behind rest (inl fits) = let found = rest (n + 1) fits.0 in (found.0, inl (fits.0, fits.1, found.1))
leads_by n state line behind rest (inr not) = (Err n, inr (not, refl))

leads_somewhere : SpelledOrFaulty → (n : ℕ) (state : State) (all : List (List ℕ)) → (found : Result PlainPlan ℕ) × LeadsTo n state all found
leads_somewhere law n state [] = (at_end n state, refl)
leads_somewhere law n state (line ∷ behind) =
    leads_by n state line behind (λ m next. leads_somewhere law m next behind) (fits_by_fault law state line (fault_of line) refl)

-- and no other way

fits_once : SpellsOneAtMost → (state : State) (line : List ℕ) (a b : State) → LineFits state line a → LineFits state line b → a ≡ b
fits_once once state line a b x y =
    let same : after_line state x.0 ≡ after_line state y.0 = ap (after_line state) (once line x.0 y.0 x.1 y.1) in
    let there : Some a ≡ Some b = sym x.2 ∙ same ∙ y.2 in
    cc

fits_or_not : SpellsOneAtMost → SpelledHasNoFault → (state : State) (line : List ℕ) (a : State) → LineFits state line a → DoesNotFit state line → ⊥
fits_or_not once faultless state line a x (inl f) =
    let clash : None ≡ Some f.0 = sym (faultless line x.0 x.1) ∙ f.1 in cc
fits_or_not once faultless state line a x (inr y) =
    let same : after_line state x.0 ≡ after_line state y.0 = ap (after_line state) (once line x.0 y.0 x.1 y.1) in
    let clash : Some a ≡ None = sym x.2 ∙ same ∙ y.2 in cc

leads_once : SpellsOneAtMost → SpelledHasNoFault → (n : ℕ) (state : State) (all : List (List ℕ)) (found other : Result PlainPlan ℕ) →
    LeadsTo n state all found → LeadsTo n state all other → other ≡ found
leads_once once faultless n state [] found other x y = y ∙ sym x
leads_once once faultless n state (line ∷ behind) found other (inl x) (inl y) =
    let same : y.0 ≡ x.0 = fits_once once state line y.0 x.0 y.1 x.1 in
    let moved : LeadsTo (n + 1) x.0 behind other = subst (λ (s : State). LeadsTo (n + 1) s behind other) same y.2 in
    leads_once once faultless (n + 1) x.0 behind found other x.2 moved
leads_once once faultless n state (line ∷ behind) found other (inl x) (inr y) = absurd (fits_or_not once faultless state line x.0 x.1 y.0)
leads_once once faultless n state (line ∷ behind) found other (inr x) (inl y) = absurd (fits_or_not once faultless state line y.0 y.1 x.0)
leads_once once faultless n state (line ∷ behind) found other (inr x) (inr y) = y.1 ∙ sym x.1

pub one_reading : SpelledOrFaulty → SpellsOneAtMost → SpelledHasNoFault → HasOneReading
one_reading law once faultless text =
    let found = leads_somewhere law 1 Opening (lines text) in
    (found.0, record { read = found.1; only = λ other y. leads_once once faultless 1 Opening (lines text) found.0 other found.1 y })
