-- Places in a text, byte after byte.
use Rattle.std.proofs.Common.{◌≡◌, ℕ, ◌+◌, ◌-◌, ◌<◌, ◌≤◌, Bool, true, false, cond, not, List, [], ◌∷◌, ◌++◌, length, get_or, take, drop, refl, sym, ap, ◌∙◌, arith}
use Rattle.std.specs.List.{suffix_len}
use Rattle.std.proofs.Math.ListN.{drop_of_length-le}
use Rattle.std.proofs.lemmas.List.{take_more, drop-append-le, length-take-le, length-drop}
use Rattle.std.proofs.lemmas.List.Sums.{count_by_more_yes, count_by_more_no, count_by-le-length, sum_by_push, suffix_len-take_yes, suffix_len-take_no, suffix_len-le-length}
use Rattle.cml_phrase.specs.Places.{begins_character, characters, is_line_feed, is_inside_line, line_at, column_at, last_line, line_before}
use Rattle.cml_phrase.specs.declared.place.Place.{Place}
use Rattle.cml_phrase.specs.Spots.{place_at, place_past}

taken : (text : List ℕ) (i : ℕ) → i ≤ length text → length (take i text) ≡ i
taken text i le = length-take-le i text le

at_last : (text : List ℕ) (i b : ℕ) → b ≡ get_or text i b → get_or text (i + 1 - 1) b ≡ b
at_last text i b is =
    let same : i + 1 - 1 ≡ i = omega arith in
    ap (λ k. get_or text k b) same ∙ sym is

-- a line feed ends the line
line_ended : (text : List ℕ) (i b : ℕ) → i < length text → b ≡ get_or text i b → is_inside_line b ≡ false → last_line (take (i + 1) text) ≡ []
line_ended text i b lt is ends =
    let none : suffix_len is_inside_line (take (i + 1) text) ≡ 0 = suffix_len-take_no is_inside_line text (i + 1) b (omega arith) (omega arith) (ap is_inside_line (at_last text i b is) ∙ ends) in
    drop_of_length-le (take (i + 1) text) (omega arith)

-- any other byte stands at its end
line_longer : (text : List ℕ) (i b : ℕ) → i < length text → b ≡ get_or text i b → is_inside_line b ≡ true → last_line (take (i + 1) text) ≡ last_line (take i text) ++ b ∷ []
line_longer text i b lt is inside =
    let same : i + 1 - 1 ≡ i = omega arith in
    let more : take (i + 1) text ≡ take i text ++ b ∷ [] = take_more text i b lt ∙ ap (λ x. take i text ++ x ∷ []) (sym is) in
    let one : suffix_len is_inside_line (take (i + 1) text) ≡ 1 + suffix_len is_inside_line (take i text) =
    suffix_len-take_yes is_inside_line text (i + 1) b (omega arith) (omega arith) (ap is_inside_line (at_last text i b is) ∙ inside) ∙ ap (λ k. 1 + suffix_len is_inside_line (take k text)) same in
    let long : length (take (i + 1) text) ≡ i + 1 = taken text (i + 1) (omega arith) in
    let short : length (take i text) ≡ i = taken text i (omega arith) in
    let le = suffix_len-le-length is_inside_line (take i text) in
    let from : length (take (i + 1) text) - suffix_len is_inside_line (take (i + 1) text) ≡ length (take i text) - suffix_len is_inside_line (take i text) = omega arith in
    ap (λ k. drop k (take (i + 1) text)) from
    ∙ ap (λ l. drop (length (take i text) - suffix_len is_inside_line (take i text)) l) more
    ∙ drop-append-le (length (take i text) - suffix_len is_inside_line (take i text)) (take i text) (b ∷ []) (omega arith)

counts_one : (test : Bool) → test ≡ true → ◌≡◌ {A = ℕ} (cond test 1 0) 1
counts_one true h = refl
counts_one false h = cc

counts_none : (test : Bool) → test ≡ false → ◌≡◌ {A = ℕ} (cond test 1 0) 0
counts_none true h = cc
counts_none false h = refl

abbrev place_of : ℕ → ℕ → Place
place_of line column = record { line = line; column = column }

-- a byte that is no line feed stays in its line
same_line : (text : List ℕ) (i b : ℕ) → i < length text → b ≡ get_or text i b → is_line_feed b ≡ false → line_at text i ≡ line_at text (i + 1)
same_line text i b lt is feed = omega (arith, count_by_more_no is_line_feed text i b lt (ap is_line_feed (sym is) ∙ feed))

-- and goes a column further where it begins a character
further : (text : List ℕ) (i b : ℕ) → i < length text → b ≡ get_or text i b → is_line_feed b ≡ false → column_at text i + cond (begins_character b) 1 0 ≡ column_at text (i + 1)
further text i b lt is feed =
    let put : characters (last_line (take i text) ++ b ∷ [])
    ≡ characters (line_before text i) + cond (begins_character b) 1 0 = sum_by_push
    (λ x. cond (begins_character x) 1 0) (last_line (take i text)) b in
    let longer : characters (line_before text (i + 1)) ≡ characters (last_line (take i text) ++ b ∷ []) = ap characters (line_longer text i b lt is (ap not feed)) in
    omega arith

step_by : (text : List ℕ) (i b : ℕ) → i < length text → b ≡ get_or text i b → (feed begins : Bool) → is_line_feed b ≡ feed → begins_character b ≡ begins →
    cond feed (place_of (line_at text i + 1) 1) (cond begins (place_of (line_at text i) (column_at text i + 1)) (place_at text i)) ≡ place_at text (i + 1)
step_by text i b lt is true begins feed h =
    let line : line_at text i + 1 ≡ line_at text (i + 1) = omega (arith, count_by_more_yes is_line_feed text i b lt (ap is_line_feed (sym is) ∙ feed)) in
    let column : 1 ≡ column_at text (i + 1) = ap (λ l. characters l + 1) (sym (line_ended text i b lt is (ap not feed))) in
    ap (λ l. place_of l 1) line ∙ ap (λ c. place_of (line_at text (i + 1)) c) column
step_by text i b lt is false true feed h =
    let more = further text i b lt is feed in
    let one : ◌≡◌ {A = ℕ} (cond (begins_character b) 1 0) 1 = counts_one (begins_character b) h in
    let column : column_at text i + 1 ≡ column_at text (i + 1) = omega arith in
    ap (λ l. place_of l (column_at text i + 1)) (same_line text i b lt is feed) ∙ ap (λ c. place_of (line_at text (i + 1)) c) column
step_by text i b lt is false false feed h =
    let more = further text i b lt is feed in
    let one : ◌≡◌ {A = ℕ} (cond (begins_character b) 1 0) 0 = counts_none (begins_character b) h in
    let column : column_at text i ≡ column_at text (i + 1) = omega arith in
    ap (λ l. place_of l (column_at text i)) (same_line text i b lt is feed) ∙ ap (λ c. place_of (line_at text (i + 1)) c) column

-- the place behind a byte of the text
pub place_step : (text : List ℕ) (i b : ℕ) → i < length text → b ≡ get_or text i b → place_past (place_at text i) b ≡ place_at text (i + 1)
place_step text i b lt is = step_by text i b lt is (is_line_feed b) (begins_character b) refl refl

-- no place has a greater number than there are bytes before it
pub line_small : (text : List ℕ) (i : ℕ) → i ≤ length text → line_at text i ≤ i + 1
line_small text i le =
    let len = taken text i le in
    omega (arith, count_by-le-length is_line_feed (take i text))

pub column_small : (text : List ℕ) (i : ℕ) → i ≤ length text → column_at text i ≤ i + 1
column_small text i le =
    let len = taken text i le in
    let count = count_by-le-length begins_character (last_line (take i text)) in
    let line : length (last_line (take i text)) ≤ i = omega (arith, length-drop (length (take i text) - suffix_len is_inside_line (take i text)) (take i text)) in
    omega arith
