-- What stands where pieces were appended one after another.
use Rattle.std.proofs.Common.{◌≡◌, ℕ, ◌+◌, ◌<◌, List, [], ◌++◌, length, get_or, drop, append_assoc, sym, ap, ◌∙◌}
use Rattle.std.proofs.lemmas.List.{at_drop_more}
use Rattle.std.specs.List.{flat_map}
use Rattle.std.specs.Fmt.{decimal}
use Rattle.cml_phrase.specs.Places.{line_at}
use Rattle.cml_phrase.specs.Diagnoses.{PlainDiagnosis}
use Rattle.cml_phrase.specs.Shown.{shown_head, shown_line, shown_mark, shown_marked, shown_note, shown_diagnosis}

pub two : (o a b p q : List ℕ) → p ≡ o ++ a → q ≡ p ++ b → q ≡ o ++ (a ++ b)
two o a b p q e f = let h : q ≡ (o ++ a) ++ b = cc in h ∙ append_assoc o a b

pub three : (o a b c p q r : List ℕ) → p ≡ o ++ a → q ≡ p ++ b → r ≡ q ++ c → r ≡ o ++ (a ++ (b ++ c))
three o a b c p q r e f g = two o a (b ++ c) p r e (two p b c q r f g)

pub five : (o a b c d e p q r s t : List ℕ) → p ≡ o ++ a → q ≡ p ++ b → r ≡ q ++ c → s ≡ r ++ d → t ≡ s ++ e → t ≡ o ++ (a ++ (b ++ (c ++ (d ++ e))))
five o a b c d e p q r s t h i j k l = two o a (b ++ (c ++ (d ++ e))) p t h (two p b (c ++ (d ++ e)) q t i (three q c d e r s t j k l))

pub from_none : (o a r : List ℕ) → o ≡ [] → r ≡ o ++ a → r ≡ a
from_none o a r e f = let h : r ≡ [] ++ a = cc in h

-- a line and its mark, by what its parts are
pub marked_by_parts : (n before before' behind behind' o p q : List ℕ) (k k' : ℕ) → before ≡ before' → behind ≡ behind' → k ≡ k'
    → p ≡ o ++ shown_line n before behind → q ≡ p ++ shown_mark n before behind k → q ≡ o ++ (shown_line n before' behind' ++ shown_mark n before' behind' k')
marked_by_parts n before before' behind behind' o p q k k' x y z e f =
    let joined : q ≡ o ++ (shown_line n before behind ++ shown_mark n before behind k) = two o _ _ p q e f in
    joined ∙ ap (λ w. o ++ w) (ap (λ w. shown_line n w behind ++ shown_mark n w behind k) x
    ∙ (ap (λ w. shown_line n before' w ++ shown_mark n before' w k) y
    ∙ ap (λ w. shown_line n before' behind' ++ shown_mark n before' behind' w) z))

-- the whole, by its three parts
pub shown_by_parts : (name text : List ℕ) (d : PlainDiagnosis) (n o p q r : List ℕ) → n ≡ decimal (line_at text d.at) → o ≡ []
    → p ≡ o ++ shown_head name text d → q ≡ p ++ shown_marked n text d.at d.marked_to → r ≡ q ++ flat_map (shown_note n text) d.notes → r ≡ shown_diagnosis name text d
shown_by_parts name text d n o p q r x y e f g =
    let f' : q ≡ p ++ shown_marked (decimal (line_at text d.at)) text d.at d.marked_to = f ∙ ap (λ w. p ++ shown_marked w text d.at d.marked_to) x in
    let g' : r ≡ q ++ flat_map (shown_note (decimal (line_at text d.at)) text) d.notes = g ∙ ap (λ w. q ++ flat_map (shown_note w text) d.notes) x in
    from_none o _ r y (three o _ _ _ p q r e f' g')

-- one element more of those that are gone through
pub one_more : (f : ℕ → List ℕ) (xs o p r : List ℕ) (i : ℕ) → i < length xs → p ≡ o ++ f (get_or xs i 0) → o ++ flat_map f (drop i xs) ≡ r → p ++ flat_map f (drop (i + 1) xs) ≡ r
one_more f xs o p r i h e k =
    let moved : (o ++ f (get_or xs i 0)) ++ flat_map f (drop (i + 1) xs)
    ≡ r = append_assoc o (f (get_or xs i 0)) (flat_map f (drop (i + 1) xs))
    ∙ (ap (λ w. o ++ w) (sym (at_drop_more (flat_map f) xs i 0 h)) ∙ k) in
    rw e moved
