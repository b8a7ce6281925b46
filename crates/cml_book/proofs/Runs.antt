-- The commands of a run, one after another.
use Rattle.std.proofs.Common.{◌≡◌, List, [], ◌∷◌, ◌++◌, reverse, refl, ap, sym, ◌∙◌}
use Rattle.std.proofs.lemmas.List.{append_assoc, reverse-append}
use Rattle.cml_scan.specs.World.{PlainWorld}
use Rattle.cml_book.specs.declared.command.Command.{Command}
use Rattle.cml_book.specs.declared.command.Reply.{Reply}
use Rattle.cml_book.specs.Step.{step, replies_of, world_after, HasStopped}

replies_push : (cs : List Command) (c : Command) (w : PlainWorld) → replies_of (cs ++ c ∷ []) w ≡ replies_of cs w ++ (step (world_after cs w) c).1 ∷ []
replies_push [] c w = refl
replies_push (x ∷ cs) c w = ap (λ rs. (step w x).1 ∷ rs) (replies_push cs c (step w x).0)

world_push : (cs : List Command) (c : Command) (w : PlainWorld) → world_after (cs ++ c ∷ []) w ≡ (step (world_after cs w) c).0
world_push [] c w = refl
world_push (x ∷ cs) c w = world_push cs c (step w x).0

-- some of the commands are done, and those that are left stand in reverse
pub record Goes (commands left : List Command) (replies : List Reply) (old now : PlainWorld) : Type 0 where
  pub done : List Command
  pub split : commands ≡ done ++ reverse left
  pub told : replies ≡ replies_of done old
  pub stands : now ≡ world_after done old

pub begins : (commands left : List Command) (replies : List Reply) (w : PlainWorld) → left ≡ reverse commands → reverse left ≡ commands → replies ≡ [] → Goes commands left replies w w
begins commands left replies w e f none = record { done = []; split = sym f; told = none; stands = refl }

first_left : (left before : List Command) (c : Command) → before ≡ left ++ c ∷ [] → reverse before ≡ c ∷ reverse left
first_left left before c e = ap reverse e ∙ reverse-append left (c ∷ [])

-- one more is done
pub goes_on : (commands before left : List Command) (replies replies' : List Reply) (old now now' : PlainWorld) (c : Command) → Goes commands before replies old now → before ≡ left ++ c ∷ []
    → replies' ≡ replies ++ (step now c).1 ∷ [] → now' ≡ (step now c).0 → Goes commands left replies' old now'
goes_on commands before left replies replies' old now now' c g e told stands = record {
  done = g.done ++ c ∷ [];
  split = g.split ∙ ap (λ cs. g.done ++ cs) (first_left left before c e) ∙ sym (append_assoc g.done (c ∷ []) (reverse left));
  told = told ∙ rw (g.told, g.stands) (sym (replies_push g.done c old));
  stands = stands ∙ ap (λ w. (step w c).0) g.stands ∙ sym (world_push g.done c old);
}

-- the run stops at a command, which comes back with those after it
pub stops : (commands before left final : List Command) (replies replies' : List Reply) (old now now' : PlainWorld) (c back : Command) → Goes commands before replies old now → before ≡ left ++ c ∷ []
    → back ≡ c → final ≡ reverse (left ++ back ∷ []) → replies' ≡ replies → now' ≡ now → HasStopped commands replies' final old now'
stops commands before left final replies replies' old now now' c back g e same is told stands =
    let final_is : final ≡ reverse before = is ∙ ap (λ x. reverse (left ++ x ∷ [])) same ∙ ap reverse (sym e) in
    let first : final ≡ c ∷ reverse left = final_is ∙ first_left left before c e in
    record {
      done = g.done;
      split = g.split ∙ ap (λ cs. g.done ++ cs) (sym final_is);
      told_so_far = told ∙ g.told;
      stands = stands ∙ g.stands;
      some_left = λ none. let both : c ∷ reverse left ≡ [] = sym first ∙ none in cc;
    }
