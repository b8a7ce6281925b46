-- How a text literal is read from its front.
use Rattle.std.proofs.Common.{◌≡◌, ◌≢◌, ℕ, suc, ◌+◌, ◌-◌, ◌<◌, ◌≤◌, true, false, eqb, List, [], ◌∷◌, ◌++◌, length, get_or, take, drop, refl, ap, sym, ◌∙◌, arith, Some, None, append_assoc}
use Rattle.std.specs.List.{prefix_len}
use Rattle.std.proofs.lemmas.Bool.Decides.{nat_tests}
use Rattle.cml_text.specs.Lexemes.{is_plain, Literal, closed, endless, no_escape, with_front, with_escape, unescaped, literal}
use Rattle.cml_text.proofs.WordLemmas.{cases_test}
use Rattle.std.proofs.Common.{inl, inr}
use Rattle.std.proofs.lemmas.List.{length-drop, get_or-drop, drop-drop, append-nil}
use Rattle.std.proofs.lemmas.List.Sums.{prefix_len-le-length, prefix_len_stops}

-- fronts add up
pub with_front-with_front : (xs ys : List ℕ) (m n : ℕ) (l : Literal) → with_front xs m (with_front ys n l) ≡ with_front (xs ++ ys) (m + n) l
with_front-with_front xs ys m n (closed content more) =
    let e : xs ++ (ys ++ content) ≡ (xs ++ ys) ++ content = sym (append_assoc xs ys content) in
    let f : m + (n + more) ≡ m + n + more = omega arith in cc
with_front-with_front xs ys m n endless = refl
with_front-with_front xs ys m n (no_escape place) = let f : m + (n + place) ≡ m + n + place = omega arith in cc

pub with_front-nil : (l : Literal) → with_front [] 0 l ≡ l
with_front-nil (closed content more) = let f : 0 + more ≡ more = omega arith in cc
with_front-nil endless = refl
with_front-nil (no_escape place) = let f : 0 + place ≡ place = omega arith in cc

not_quote : (b : ℕ) → is_plain b ≡ true → eqb b 34 ≡ false
not_quote b h = grind (arith, nat_tests)

not_backslash : (b : ℕ) → is_plain b ≡ true → eqb b 92 ≡ false
not_backslash b h = grind (arith, nat_tests)

-- a byte that stands for itself
pub literal_plain : (b : ℕ) (bytes : List ℕ) → is_plain b ≡ true → literal (b ∷ bytes) ≡ with_front (b ∷ []) 1 (literal bytes)
unfolding literal
literal_plain b [] h = rw (not_quote b h) refl
literal_plain b (c ∷ bytes) h = rw (not_quote b h) (rw (not_backslash b h) refl)

-- the bytes up to the first quote or backslash stand for themselves
pub literal_run : (bytes : List ℕ) → literal bytes ≡ with_front (take (prefix_len is_plain bytes) bytes) (prefix_len is_plain bytes) (literal (drop (prefix_len is_plain bytes) bytes))
literal_run [] = sym (with_front-nil (literal []))
literal_run (b ∷ bytes) =
    elim (cases_test (is_plain b)) [
      | inl e ↦
          let k : 1 + prefix_len is_plain bytes ≡ suc (prefix_len is_plain bytes) = omega arith in
          rw e (rw k (literal_plain b bytes e ∙ ap (with_front (b ∷ []) 1) (literal_run bytes) ∙ with_front-with_front (b ∷ []) _ 1 _ _
          ∙ ap (λ m. with_front (b ∷ take (prefix_len is_plain bytes) bytes) m (literal (drop (prefix_len is_plain bytes) bytes))) k))
      | inr e ↦ rw e (sym (with_front-nil (literal (b ∷ bytes))))
    ]

pub literal_quote : (s : List ℕ) → 0 < length s → get_or s 0 0 ≡ 34 → literal s ≡ closed [] 1
unfolding literal
literal_quote [] h e = absurd (omega arith)
literal_quote (b ∷ []) h e = let f : eqb b 34 ≡ true = grind (arith, nat_tests) in rw f refl
literal_quote (b ∷ c ∷ s) h e = let f : eqb b 34 ≡ true = grind (arith, nat_tests) in rw f refl

pub literal_end : (s : List ℕ) → length s ≡ 0 → literal s ≡ endless
unfolding literal
literal_end [] h = refl
literal_end (b ∷ s) h = absurd (omega arith)

pub literal_lone : (s : List ℕ) → length s ≡ 1 → get_or s 0 0 ≢ 34 → literal s ≡ endless
unfolding literal
literal_lone [] h e = absurd (omega arith)
literal_lone (b ∷ []) h e = let f : eqb b 34 ≡ false = grind (arith, nat_tests) in rw f refl
literal_lone (b ∷ c ∷ s) h e = absurd (omega arith)

pub literal_escape : (s : List ℕ) → 1 < length s → get_or s 0 0 ≢ 34 → is_plain (get_or s 0 0) ≡ false → literal s ≡ with_escape (unescaped (get_or s 1 0)) (literal (drop 2 s))
unfolding literal
literal_escape [] h e p = absurd (omega arith)
literal_escape (b ∷ []) h e p = absurd (omega arith)
literal_escape (b ∷ c ∷ s) h e p = let f : eqb b 34 ≡ false = grind (arith, nat_tests) in let g : eqb b 92 ≡ true = grind (arith, nat_tests) in rw f (rw g refl)

-- the literal at text is this content, and then the literal at rest
pub record UpTo (text content rest : List ℕ) : Type 0 where
  pub within : length rest ≤ length text
  pub left : rest ≡ drop (length text - length rest) text
  pub front : literal text ≡ with_front content (length text - length rest) (literal rest)

pub up_to_start : (text content : List ℕ) → content ≡ [] → UpTo text content text
up_to_start text content e =
    let z : length text - length text ≡ 0 = omega arith in
    record {
      within = omega arith;
      left = rw z refl;
      front = rw z (rw e (sym (with_front-nil (literal text))));
    }

-- this many more bytes were read
pub up_to_more : (text content rest more after rest' : List ℕ) (n : ℕ) → UpTo text content rest → after ≡ content ++ more → rest' ≡ drop n rest → n ≤ length rest →
    literal rest ≡ with_front more n (literal rest') → UpTo text after rest'
up_to_more text content rest more after rest' n up same cut short read =
    let shrunk : length rest' ≡ length rest - n = ap length cut ∙ length-drop n rest in
    let k : length text - length rest' ≡ (length text - length rest) + n = omega (arith, up.within) in
    record {
      within = omega (arith, up.within);
      left = rw k (cut ∙ ap (drop n) up.left ∙ drop-drop n (length text - length rest) text);
      front = rw k (rw same (up.front ∙ ap (with_front content (length text - length rest)) read ∙ with_front-with_front content more (length text - length rest) n (literal rest')));
    }

-- the bytes up to the first quote or backslash were read
pub up_to_run : (text content rest plain after rest' bytes : List ℕ) (n : ℕ) → UpTo text content rest → after ≡ content ++ plain → plain ≡ take n rest → rest' ≡ drop n rest →
    n ≡ prefix_len is_plain bytes → bytes ≡ rest → UpTo text after rest'
up_to_run text content rest plain after rest' bytes n up same front cut count is =
    let m : n ≡ prefix_len is_plain rest = count ∙ ap (prefix_len is_plain) is in
    up_to_more text content rest plain after rest' n up same cut (omega (arith, prefix_len-le-length is_plain rest))
    (literal_run rest ∙ ap (λ k. with_front (take k rest) k (literal (drop k rest))) (sym m) ∙ ap (λ p. with_front p n (literal (drop n rest))) (sym front)
    ∙ ap (λ r. with_front plain n (literal r)) (sym cut))

-- and what follows them begins with a quote or a backslash, if anything follows
pub run_stops : (rest rest' bytes : List ℕ) (n : ℕ) → n ≡ prefix_len is_plain bytes → bytes ≡ rest → rest' ≡ drop n rest → 0 < length rest' → is_plain (get_or rest' 0 0) ≡ false
run_stops rest rest' bytes n count is cut more =
    let m : n ≡ prefix_len is_plain rest = count ∙ ap (prefix_len is_plain) is in
    let shrunk : length rest' ≡ length rest - n = ap length cut ∙ length-drop n rest in
    let z : n + 0 ≡ prefix_len is_plain rest = omega arith in
    let here : get_or rest' 0 0 ≡ get_or rest (prefix_len is_plain rest) 0 = ap (λ r. get_or r 0 0) cut ∙ get_or-drop n rest 0 0 ∙ ap (λ k. get_or rest k 0) z in
    rw here (prefix_len_stops is_plain rest 0 (omega arith))

-- an escape was read
pub up_to_escape : (text content special after rest' : List ℕ) (b : ℕ) → UpTo text content special → after ≡ content ++ (b ∷ []) → rest' ≡ drop 1 (drop 1 special) → 1 < length special →
    get_or special 0 0 ≢ 34 → is_plain (get_or special 0 0) ≡ false → Some b ≡ unescaped (get_or special 1 0) → UpTo text after rest'
up_to_escape text content special after rest' b up same cut long quote stop found =
    let two : rest' ≡ drop 2 special = cut ∙ drop-drop 1 1 special in
    up_to_more text content special (b ∷ []) after rest' 2 up same two (omega arith)
    (literal_escape special long quote stop ∙ ap (λ o. with_escape o (literal (drop 2 special))) (sym found) ∙ ap (λ r. with_front (b ∷ []) 2 (literal r)) (sym two))

pub endless_from : (text content rest : List ℕ) → UpTo text content rest → literal rest ≡ endless → literal text ≡ endless
endless_from text content rest up e = up.front ∙ ap (with_front content (length text - length rest)) e

pub no_escape_from : (text content special : List ℕ) → UpTo text content special → 1 < length special → get_or special 0 0 ≢ 34 → is_plain (get_or special 0 0) ≡ false →
    None ≡ unescaped (get_or special 1 0) → literal text ≡ no_escape (length text - length special)
no_escape_from text content special up long quote stop found =
    let z : (length text - length special) + 0 ≡ length text - length special = omega arith in
    up.front ∙ ap (with_front content (length text - length special)) (literal_escape special long quote stop ∙ ap (λ o. with_escape o (literal (drop 2 special))) (sym found)) ∙ ap no_escape z

pub closed_from : (text content special rest' : List ℕ) → UpTo text content special → 0 < length special → get_or special 0 0 ≡ 34 → rest' ≡ drop 1 special →
    (literal text ≡ closed content (length text - length rest')) × (rest' ≡ drop (length text - length rest') text) × (length rest' ≤ length text)
closed_from text content special rest' up long quote cut =
    let shrunk : length rest' ≡ length special - 1 = ap length cut ∙ length-drop 1 special in
    let k : length text - length rest' ≡ (length text - length special) + 1 = omega (arith, up.within) in (
      rw k (up.front ∙ ap (with_front content (length text - length special)) (literal_quote special long quote) ∙ ap (λ c. closed c ((length text - length special) + 1)) (append-nil content)),
      rw k (cut ∙ ap (drop 1) up.left ∙ drop-drop 1 (length text - length special) text),
      omega (arith, up.within),
    )

-- an escape stands for an ASCII character
pub unescaped_low : (b c : ℕ) → Some c ≡ unescaped b → c < 128
unescaped_low b c h =
    elim (cases_test (eqb b 34)) [
      | inl e ↦ let f : Some c ≡ Some 34 = rw e at h in let g : c ≡ 34 = cc in omega arith
      | inr e ↦
          elim (cases_test (eqb b 92)) [
            | inl e2 ↦ let f : Some c ≡ Some 92 = rw (e, e2) at h in let g : c ≡ 92 = cc in omega arith
            | inr e2 ↦
                elim (cases_test (eqb b 110)) [
                  | inl e3 ↦ let f : Some c ≡ Some 10 = rw (e, e2, e3) at h in let g : c ≡ 10 = cc in omega arith
                  | inr e3 ↦ let f : Some c ≡ None = rw (e, e2, e3) at h in let g : c ≡ 0 = cc in omega arith
                ]
          ]
    ]
