-- Where the first line of a text ends.
use Rattle.std.proofs.Common.{◌≡◌, ◌≢◌, ℕ, zero, suc, ◌+◌, ◌-◌, ◌<◌, ◌==◌, true, false, List, [], ◌∷◌, ◌++◌, length, take, drop, get_or, refl, ap, sym, ◌∙◌, arith, length-drop, take_all, add-one}
use Rattle.std.specs.List.{onto_first}
use Rattle.std.proofs.lemmas.Bool.Decides.{nat_tests}
use Rattle.std.proofs.lemmas.Bool.{false≢true}
use Rattle.cml_text.specs.Grammar.{HaveNoLineFeed}
use Rattle.cml_text.specs.Laws.{WrittenLineIsFirst}
use Rattle.cml_text.specs.Lines.{line, lines}

is_feed : (b : ℕ) → b ≡ 10 → (b == 10) ≡ true
is_feed b e = grind (arith, nat_tests)

is_no_feed : (b : ℕ) → b ≢ 10 → (b == 10) ≡ false
is_no_feed b ne = grind (arith, nat_tests)

pub lines_feed : (b : ℕ) (bytes : List ℕ) → b ≡ 10 → lines (b ∷ bytes) ≡ [] ∷ lines bytes
lines_feed b bytes e = rw (is_feed b e) refl

pub lines_byte : (b : ℕ) (bytes : List ℕ) → b ≢ 10 → lines (b ∷ bytes) ≡ onto_first b (lines bytes)
lines_byte b bytes ne = rw (is_no_feed b ne) refl

-- a line feed ends the first line
pub lines_at : (text : List ℕ) (i : ℕ) → i < length text → get_or text i 0 ≡ 10 → ((k : ℕ) → k < i → get_or text k 0 ≢ 10) →
    lines text ≡ take i text ∷ lines (drop (suc i) text)
lines_at [] i lt is none = absurd (omega arith)
lines_at (b ∷ bs) zero lt is none = lines_feed b bs is
lines_at (b ∷ bs) (suc i) lt is none =
    let deeper : i < length bs = omega arith in
    lines_byte b bs (none 0 (omega arith)) ∙ ap (λ ls. onto_first b ls) (lines_at bs i deeper is (λ k h. none (suc k) (omega arith)))

-- without a line feed there is one line, if there is anything
pub lines_alone : (b : ℕ) (bs : List ℕ) → ((k : ℕ) → k < length (b ∷ bs) → get_or (b ∷ bs) k 0 ≢ 10) → lines (b ∷ bs) ≡ (b ∷ bs) ∷ []
lines_alone b [] none = lines_byte b [] (none 0 (omega arith))
lines_alone b (c ∷ cs) none =
    lines_byte b (c ∷ cs) (none 0 (omega arith)) ∙ ap (λ ls. onto_first b ls) (lines_alone c cs (λ k h. none (suc k) (omega arith)))

-- the same, of what slices up to the end hold
pub lines_cut : (text : List ℕ) (i : ℕ) → i < length text → get_or text i 0 ≡ 10 → ((k : ℕ) → k < i → get_or text k 0 ≢ 10) →
    lines text ≡ take i text ∷ lines (take (length text - (i + 1)) (drop (i + 1) text))
lines_cut text i lt is none =
    let rest : take (length text - (i + 1)) (drop (i + 1) text) ≡ drop (i + 1) text =
    take_all (length text - (i + 1)) (drop (i + 1) text) (omega (arith, length-drop (i + 1) text)) in
    let step : drop (suc i) text ≡ drop (i + 1) text = rw add-one refl in
    lines_at text i lt is none ∙ ap (λ bs. take i text ∷ lines bs) (step ∙ sym rest)

pub lines_whole : (text : List ℕ) → 0 < length text → ((k : ℕ) → k < length text → get_or text k 0 ≢ 10) →
    lines text ≡ text ∷ lines (take (length text - length text) (drop (length text) text))
lines_whole [] some none = absurd (omega arith)
lines_whole (b ∷ bs) some none =
    let nothing : 0 ≡ length (b ∷ bs) - length (b ∷ bs) = omega arith in
    lines_alone b bs none ∙ ap (λ n. (b ∷ bs) ∷ lines (take n (drop (length (b ∷ bs)) (b ∷ bs)))) nothing

-- a byte in front of bytes without a line feed
pub first_none : (b : ℕ) (bytes : List ℕ) → HaveNoLineFeed (b ∷ bytes) → b ≢ 10
first_none b bytes none is = let e : (b == 10) ≡ true = is_feed b is in let bad : false ≡ true = rw e at none in absurd (false≢true bad)

pub behind_none : (b : ℕ) (bytes : List ℕ) → HaveNoLineFeed (b ∷ bytes) → HaveNoLineFeed bytes
behind_none b bytes none = let e : (b == 10) ≡ false = is_no_feed b (first_none b bytes none) in rw e at none

pub written_line_is_first : WrittenLineIsFirst
written_line_is_first [] text none = lines_feed 10 text refl
written_line_is_first (b ∷ bytes) text none =
    lines_byte b (line bytes ++ text) (first_none b bytes none) ∙ ap (λ ls. onto_first b ls) (written_line_is_first bytes text (behind_none b bytes none))
