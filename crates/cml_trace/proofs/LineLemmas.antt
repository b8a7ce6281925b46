-- Where the first line of a text ends.
use Rattle.std.proofs.lemmas.List.{drop_more, get_or-drop, take-append-drop}
use Rattle.std.proofs.Common.{◌≡◌, ◌≢◌, ℕ, zero, suc, ◌+◌, ◌-◌, ◌<◌}
use Rattle.std.proofs.Common.{◌≤◌, ◌==◌, Bool, true, false, List, [], ◌∷◌, ◌++◌, length, take, drop, get_or, refl}
use Rattle.std.proofs.Common.{ap, sym, ◌∙◌, arith, length-drop, take_all, add-one}
use Rattle.std.specs.List.{onto_first}
use Rattle.std.proofs.lemmas.List.Splits.{slice_split-cons_yes, slice_split-cons_no, slice_split_none, length-slice_split}
use Rattle.std.proofs.lemmas.List.Elements.{All-head, All-tail, All-same, All-from_get_or}
use Rattle.std.proofs.lemmas.Bool.Decides.{nat_tests}
use Rattle.cml_trace.specs.Answers.{trace_lines}
use Rattle.cml_trace.specs.Lines.{HasNoFeed}

is_feed : (b : ℕ) → b ≡ 10 → (b == 10) ≡ true
is_feed b e = grind (arith, nat_tests)

is_no_feed : (b : ℕ) → b ≢ 10 → (b == 10) ≡ false
is_no_feed b ne = grind (arith, nat_tests)

-- a line feed ends the first line
pub lines_at : (input : List ℕ) (i : ℕ) → i < length input → get_or input i 0 ≡ 10 → ((k : ℕ) → k < i → get_or input k 0 ≢ 10) →
    trace_lines input ≡ take i input ∷ trace_lines (drop (suc i) input)
lines_at [] i lt is none = absurd (omega arith)
lines_at (b ∷ bs) zero lt is none = slice_split-cons_yes (λ x. x == 10) b bs (is_feed b is)
lines_at (b ∷ bs) (suc i) lt is none =
    let deeper : i < length bs = omega arith in
    slice_split-cons_no (λ x. x == 10) b bs (is_no_feed b (none 0 (omega arith)))
    ∙ ap (λ ls. onto_first b ls) (lines_at bs i deeper is (λ k h. none (suc k) (omega arith)))

-- without a line feed there is one line
pub lines_alone : (input : List ℕ) → ((k : ℕ) → k < length input → get_or input k 0 ≢ 10) → trace_lines input ≡ input ∷ []
lines_alone [] none = refl
lines_alone (b ∷ bs) none =
    slice_split-cons_no (λ x. x == 10) b bs (is_no_feed b (none 0 (omega arith)))
    ∙ ap (λ ls. onto_first b ls) (lines_alone bs (λ k h. none (suc k) (omega arith)))

-- the same, of what a slice up to the end holds
pub lines_cut : (input : List ℕ) (i : ℕ) → i < length input → get_or input i 0 ≡ 10 → ((k : ℕ) → k < i → get_or input k 0 ≢ 10) →
    trace_lines input ≡ take i input ∷ trace_lines (take (length input - (i + 1)) (drop (i + 1) input))
lines_cut input i lt is none =
    let rest : take (length input - (i + 1)) (drop (i + 1) input) ≡ drop (i + 1) input =
    take_all (length input - (i + 1)) (drop (i + 1) input) (omega (arith, length-drop (i + 1) input)) in
    let step : drop (suc i) input ≡ drop (i + 1) input = rw add-one refl in
    lines_at input i lt is none ∙ ap (λ bs. take i input ∷ trace_lines bs) (step ∙ sym rest)

-- a byte before the first of some lines, and more lines behind them
onto_both : (b : ℕ) (some more : List (List ℕ)) → 0 < length some → onto_first b (some ++ more) ≡ onto_first b some ++ more
onto_both b [] more lt = absurd (omega arith)
onto_both b (first ∷ some) more lt = refl

some_line : (text : List ℕ) → 0 < length (trace_lines text)
some_line text = let n = length-slice_split (λ x. x == 10) text in omega arith

-- the lines before a line feed, and those after it
lines_both_by : (b : ℕ) (front rest : List ℕ) (t : Bool) → (b == 10) ≡ t → trace_lines (front ++ 10 ∷ rest) ≡ trace_lines front ++ trace_lines rest →
    trace_lines (b ∷ (front ++ 10 ∷ rest)) ≡ trace_lines (b ∷ front) ++ trace_lines rest
lines_both_by b front rest true e h =
    slice_split-cons_yes (λ x. x == 10) b (front ++ 10 ∷ rest) e ∙ ap (λ ls. [] ∷ ls) h
    ∙ ap (λ ls. ls ++ trace_lines rest) (sym (slice_split-cons_yes (λ x. x == 10) b front e))
lines_both_by b front rest false e h =
    slice_split-cons_no (λ x. x == 10) b (front ++ 10 ∷ rest) e ∙ ap (λ ls. onto_first b ls) h
    ∙ onto_both b (trace_lines front) (trace_lines rest) (some_line front)
    ∙ ap (λ ls. ls ++ trace_lines rest) (sym (slice_split-cons_no (λ x. x == 10) b front e))

pub lines_both : (front rest : List ℕ) → trace_lines (front ++ 10 ∷ rest) ≡ trace_lines front ++ trace_lines rest
lines_both [] rest = slice_split-cons_yes (λ x. x == 10) 10 rest refl
lines_both (b ∷ front) rest = lines_both_by b front rest (b == 10) refl (lines_both front rest)

-- bytes in which no line ends are one line
pub line_alone : (bytes : List ℕ) → HasNoFeed bytes → trace_lines bytes ≡ bytes ∷ []
line_alone bytes none = slice_split_none (λ x. x == 10) bytes (λ k d lt. is_no_feed (get_or bytes k d) (none k d lt))

-- Where some lines of a text ended and another was begun, more bytes go on with that one.
append_nothing : {A : Type 0} (x y : A) (some : List A) → [] ≡ some ++ y ∷ [] → ⊥
append_nothing x y [] e = cc
append_nothing x y (z ∷ some) e = cc

abbrev Begins : List ℕ → List (List ℕ) → List ℕ → Type 0
Begins text whole begun = trace_lines text ≡ whole ++ begun ∷ []

abbrev GoOn : List ℕ → List (List ℕ) → List ℕ → List ℕ → Type 0
GoOn text whole begun given = trace_lines (text ++ given) ≡ whole ++ trace_lines (begun ++ given)

on_first : (given : List ℕ) (whole : List (List ℕ)) (begun : List ℕ) → Begins [] whole begun → GoOn [] whole begun given
on_first given [] begun e =
    let none : begun ≡ [] = cc in ap (λ bs. trace_lines (bs ++ given)) (sym none)
on_first given (x ∷ whole) begun e =
    let rest : [] ≡ whole ++ begun ∷ [] = cc in absurd (append_nothing x begun whole rest)

on_feed : (b : ℕ) (text given : List ℕ) (whole : List (List ℕ)) (begun : List ℕ) → (b == 10) ≡ true → [] ∷ trace_lines text ≡ whole ++ begun ∷ [] →
    ((more : List (List ℕ)) (last : List ℕ) → Begins text more last → GoOn text more last given) → GoOn (b ∷ text) whole begun given
on_feed b text given [] begun is e next =
    let none : trace_lines text ≡ [] = cc in
    let some = some_line text in
    let zero : length (trace_lines text) ≡ 0 = ap length none in absurd (omega arith)
on_feed b text given (x ∷ whole) begun is e next =
    let rest : trace_lines text ≡ whole ++ begun ∷ [] = cc in
    let first : [] ≡ x = cc in
    slice_split-cons_yes (λ y. y == 10) b (text ++ given) is ∙ ap (λ ls. [] ∷ ls) (next whole begun rest)
    ∙ ap (λ l. l ∷ (whole ++ trace_lines (begun ++ given))) first

on_other : (b : ℕ) (text given : List ℕ) (whole : List (List ℕ)) (begun : List ℕ) (lines : List (List ℕ)) → (b == 10) ≡ false → trace_lines text ≡ lines →
    onto_first b lines ≡ whole ++ begun ∷ [] →
    ((more : List (List ℕ)) (last : List ℕ) → Begins text more last → GoOn text more last given) → GoOn (b ∷ text) whole begun given
on_other b text given whole begun [] isnt is e next =
    let some = some_line text in
    let zero : length (trace_lines text) ≡ 0 = ap length is in absurd (omega arith)
on_other b text given [] begun (l ∷ ls) isnt is e next =
    let last : begun ≡ b ∷ l = cc in
    let none : ls ≡ [] = cc in
    slice_split-cons_no (λ y. y == 10) b (text ++ given) isnt ∙ ap (λ xs. onto_first b xs) (next [] l (is ∙ ap (λ xs. l ∷ xs) none))
    ∙ sym (slice_split-cons_no (λ y. y == 10) b (l ++ given) isnt) ∙ ap (λ xs. trace_lines (xs ++ given)) (sym last)
on_other b text given (x ∷ whole) begun (l ∷ ls) isnt is e next =
    let first : b ∷ l ≡ x = cc in
    let rest : ls ≡ whole ++ begun ∷ [] = cc in
    slice_split-cons_no (λ y. y == 10) b (text ++ given) isnt ∙ ap (λ xs. onto_first b xs) (next (l ∷ whole) begun (is ∙ ap (λ xs. l ∷ xs) rest))
    ∙ ap (λ xs. xs ∷ (whole ++ trace_lines (begun ++ given))) first

on_by : (b : ℕ) (text given : List ℕ) (whole : List (List ℕ)) (begun : List ℕ) (t : Bool) → (b == 10) ≡ t → Begins (b ∷ text) whole begun →
    ((more : List (List ℕ)) (last : List ℕ) → Begins text more last → GoOn text more last given) → GoOn (b ∷ text) whole begun given
on_by b text given whole begun true is e next = on_feed b text given whole begun is (sym (slice_split-cons_yes (λ y. y == 10) b text is) ∙ e) next
on_by b text given whole begun false is e next =
    on_other b text given whole begun (trace_lines text) is refl (sym (slice_split-cons_no (λ y. y == 10) b text is) ∙ e) next

pub lines_on : (text given : List ℕ) (whole : List (List ℕ)) (begun : List ℕ) → trace_lines text ≡ whole ++ begun ∷ [] →
    trace_lines (text ++ given) ≡ whole ++ trace_lines (begun ++ given)
lines_on [] given whole begun e = on_first given whole begun e
lines_on (b ∷ text) given whole begun e = on_by b text given whole begun (b == 10) refl e (λ more last h. lines_on text given more last h)

-- there is at most one line more than bytes
onto_length : (b : ℕ) (lines : List (List ℕ)) → 0 < length lines → length (onto_first b lines) ≡ length lines
onto_length b [] lt = absurd (omega arith)
onto_length b (l ∷ ls) lt = refl

few_lines_by : (b : ℕ) (text : List ℕ) (t : Bool) → (b == 10) ≡ t → length (trace_lines text) ≤ length text + 1 → length (trace_lines (b ∷ text)) ≤ length (b ∷ text) + 1
few_lines_by b text true is h =
    let first = ap length (slice_split-cons_yes (λ y. y == 10) b text is) in omega arith
few_lines_by b text false is h =
    let first = ap length (slice_split-cons_no (λ y. y == 10) b text is) in
    let same = onto_length b (trace_lines text) (some_line text) in omega arith

pub few_lines : (text : List ℕ) → length (trace_lines text) ≤ length text + 1
few_lines [] = omega arith
few_lines (b ∷ text) = few_lines_by b text (b == 10) refl (few_lines text)

-- bytes of one line do not add any
pub few_more : (bytes front : List ℕ) → HasNoFeed bytes → length (trace_lines (bytes ++ front)) ≤ length front + 1
few_more [] front none = few_lines front
few_more (b ∷ bytes) front none =
    let no : (b == 10) ≡ false = is_no_feed b (All-head (λ x. x ≢ 10) b bytes none) in
    let next = few_more bytes front (All-tail (λ x. x ≢ 10) b bytes none) in
    let first = ap length (slice_split-cons_no (λ y. y == 10) b (bytes ++ front) no) in
    let same = onto_length b (trace_lines (bytes ++ front)) (some_line (bytes ++ front)) in omega arith

-- no line feed stands before this place
abbrev pub NoFeedBelow : List ℕ → ℕ → Type 0
NoFeedBelow input n = (k : ℕ) → k < n → get_or input k 0 ≢ 10

-- the last line feed before this place stands there
pub record LastFeedBelow (input : List ℕ) (n i : ℕ) : Type 0 where
  pub below : i < n
  pub is : get_or input i 0 ≡ 10
  pub last : (k : ℕ) → i < k → k < n → get_or input k 0 ≢ 10

rest_whole : (input : List ℕ) (i : ℕ) → i < length input → take (length input - (i + 1)) (drop (i + 1) input) ≡ drop (i + 1) input
rest_whole input i lt = take_all (length input - (i + 1)) (drop (i + 1) input) (omega (arith, length-drop (i + 1) input))

-- what stands before a line feed, and what stands after it
pub cut_at : (input : List ℕ) (i : ℕ) → i < length input → get_or input i 0 ≡ 10 → input ≡ take i input ++ 10 ∷ take (length input - (i + 1)) (drop (i + 1) input)
cut_at input i lt is =
    sym (take-append-drop i input)
    ∙ ap (λ ds. take i input ++ ds) (drop_more input i 0 lt ∙ ap (λ x. x ∷ drop (i + 1) input) is ∙ ap (λ ds. 10 ∷ ds) (sym (rest_whole input i lt)))

-- no line feed stands after the last one
pub none_after : (input : List ℕ) (i : ℕ) → LastFeedBelow input (length input) i → HasNoFeed (take (length input - (i + 1)) (drop (i + 1) input))
none_after input i f =
    let below = f.below in
    All-same (λ b. b ≢ 10) (take (length input - (i + 1)) (drop (i + 1) input)) (drop (i + 1) input) (rest_whole input i below)
    (All-from_get_or (λ b. b ≢ 10) (drop (i + 1) input) 0
    (λ k lt e. f.last (i + 1 + k) (omega arith) (omega (arith, length-drop (i + 1) input)) (sym (get_or-drop (i + 1) input k 0) ∙ e)))

pub none_at_all : (input : List ℕ) → NoFeedBelow input (length input) → HasNoFeed input
none_at_all input none = All-from_get_or (λ b. b ≢ 10) input 0 none
