-- A run that is gone through by hand: one line is answered after another.
use Rattle.std.specs.Prelude.{◌≡◌, ℕ, Bool, true, false, List, [], ◌∷◌}
use Rattle.cml_hub.specs.Kept.{Kept}
use Rattle.cml_phrase.specs.declared.place.Place.{Place}
use Rattle.cml_stepper.specs.declared.reply.Reply.{Reply}
use Rattle.cml_stepper.specs.Replies.{AnswersLine, is_end}

-- Behind a line at which it ends no line comes; behind any other it goes on so.
abbrev pub ComesBehind : Bool → Kept → List (List ℕ) → Bool → Kept → Type 0 → Type 0
ComesBehind true h lines ends last GoesOn = (lines ≡ []) × (ends ≡ true) × (last ≡ h)
ComesBehind false h lines ends last GoesOn = GoesOn

-- These lines are answered one after another, from this hub on; it has ended where the last of them is one at which it ends.
abbrev pub Session : List (List Place) → Kept → List (List ℕ) → Bool → Kept → Type 0
Session places h [] ends last = (ends ≡ false) × (last ≡ h)
Session places h (line ∷ lines) ends last =
    (reply : Reply) × (next : Kept) × AnswersLine places h line reply next × ComesBehind (is_end reply) next lines ends last (Session places next lines ends last)
