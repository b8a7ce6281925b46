-- How a lexeme ends whatever follows it, as long as the next byte is the same.
use Rattle.std.proofs.Common.{◌≡◌, ℕ, suc, ◌+◌, Bool, true, false, eqb, List, [], ◌∷◌, ◌++◌, length, take, refl, ap, sym, ◌∙◌, arith, Option, Some, None, append_assoc, inl, inr}
use Rattle.std.specs.List.{prefix_len, list_all}
use Rattle.std.proofs.lemmas.Bool.Decides.{nat_tests}
use Rattle.std.proofs.lemmas.List.{length-append}
use Rattle.cml_text.specs.Lexemes.{is_plain, Literal, closed, endless, no_escape, with_front, with_escape, unescaped, literal, Lexeme, lexemes}
use Rattle.cml_text.proofs.WordLemmas.{cases_test}
use Rattle.cml_text.proofs.LiteralLemmas.{literal_plain, literal_quote, literal_end, literal_lone}
use Rattle.cml_text.proofs.PrintedLemmas.{Stops}

-- the first is empty, or begins as the second does
abbrev pub SameFront : List ℕ → List ℕ → Type 0
SameFront [] rest = Unit {0}
SameFront (y ∷ ys) [] = ⊥
SameFront (y ∷ ys) (z ∷ zs) = y ≡ z

pub same_front : (rest : List ℕ) → SameFront rest rest
same_front [] = tt
same_front (z ∷ zs) = refl

pub same_front_behind : (bytes ys rest : List ℕ) → SameFront ys rest → SameFront (bytes ++ ys) (bytes ++ rest)
same_front_behind [] ys rest same = same
same_front_behind (b ∷ bytes) ys rest same = refl

pub stops_same : (p : ℕ → Bool) (ys rest : List ℕ) → SameFront ys rest → Stops p rest → Stops p ys
stops_same p [] rest same stop = tt
stops_same p (y ∷ ys) [] same stop = absurd same
stops_same p (y ∷ ys) (z ∷ zs) same stop = ap p same ∙ stop

-- at a place these bytes are these lexemes, whatever follows that begins as the rest does
abbrev pub Cut : ℕ → List ℕ → List ℕ → List Lexeme → Type 0
Cut at bytes rest ws = (ys : List ℕ) → SameFront ys rest → lexemes 0 at (bytes ++ ys) ≡ ws ++ lexemes 0 (at + length bytes) ys

pub cut_both : (at : ℕ) (first second rest : List ℕ) (ws vs : List Lexeme) → Cut at first (second ++ rest) ws → Cut (at + length first) second rest vs → Cut at (first ++ second) rest (ws ++ vs)
cut_both at first second rest ws vs c d ys same =
    let count : at + length first + length second ≡ at + length (first ++ second) = omega (arith, length-append first second) in
    ap (lexemes 0 at) (append_assoc first second ys) ∙ c (second ++ ys) (same_front_behind second ys rest same) ∙ ap (λ ls. ws ++ ls) (d ys same)
    ∙ sym (append_assoc ws vs (lexemes 0 (at + length first + length second) ys)) ∙ ap (λ n. (ws ++ vs) ++ lexemes 0 n ys) count

-- a run of bytes that pass, and what follows it
pub record Run (p : ℕ → Bool) (bytes : List ℕ) : Type 0 where
  pub front : List ℕ
  pub rest : List ℕ
  pub parts : bytes ≡ front ++ rest
  pub all : list_all p front ≡ true
  pub stop : Stops p rest
  pub taken : take (prefix_len p bytes) bytes ≡ front
  pub count : prefix_len p bytes ≡ length front

pub run_of : (p : ℕ → Bool) (bytes : List ℕ) → Run p bytes
run_of p [] = record { front = []; rest = []; parts = refl; all = refl; stop = tt; taken = refl; count = refl }
run_of p (b ∷ bytes) =
    elim (cases_test (p b)) [
      | inl e ↦
          let r = run_of p bytes in
          let k : 1 + prefix_len p bytes ≡ suc (prefix_len p bytes) = omega arith in
          record {
            front = b ∷ r.front;
            rest = r.rest;
            parts = ap (λ t. b ∷ t) r.parts;
            all = rw e r.all;
            stop = r.stop;
            taken = rw e (rw k (ap (λ t. b ∷ t) r.taken));
            count = rw e (rw k (ap suc r.count));
          }
      | inr e ↦ record { front = []; rest = b ∷ bytes; parts = refl; all = refl; stop = e; taken = rw e refl; count = rw e refl }
    ]

-- what a literal with more at its front was without it
pub front_inverse : (front : List ℕ) (n : ℕ) (l : Literal) (content : List ℕ) (more : ℕ) → with_front front n l ≡ closed content more →
    (inner : List ℕ) × ((less : ℕ) × ((l ≡ closed inner less) × ((content ≡ front ++ inner) × (more ≡ n + less))))
front_inverse front n (closed inner less) content more e = (inner, (less, (refl, (cc, cc))))
front_inverse front n endless content more e = absurd (cc)
front_inverse front n (no_escape place) content more e = absurd (cc)

pub escape_inverse : (o : Option ℕ) (l : Literal) (content : List ℕ) (more : ℕ) → with_escape o l ≡ closed content more → (b : ℕ) × ((o ≡ Some b) × (with_front (b ∷ []) 2 l ≡ closed content more))
escape_inverse None l content more e = absurd (cc)
escape_inverse (Some b) l content more e = (b, (refl, e))

-- a literal that is closed stays so whatever follows it
pub record LiteralCut (bytes content : List ℕ) (more : ℕ) : Type 0 where
  pub front : List ℕ
  pub rest : List ℕ
  pub parts : bytes ≡ front ++ rest
  pub count : more ≡ length front
  pub stays : (ys : List ℕ) → literal (front ++ ys) ≡ closed content more

quote_cut : (b : ℕ) (bytes content : List ℕ) (more : ℕ) → eqb b 34 ≡ true → closed [] 1 ≡ closed content more → LiteralCut (b ∷ bytes) content more
quote_cut b bytes content more e is =
    let same : b ≡ 34 = grind (arith, nat_tests) in
    record { front = b ∷ []; rest = bytes; parts = refl; count = sym (cc); stays = λ ys. literal_quote (b ∷ ys) (omega arith) same ∙ is }

pub literal_backslash : (b c : ℕ) (bytes : List ℕ) → eqb b 34 ≡ false → eqb b 92 ≡ true → literal (b ∷ c ∷ bytes) ≡ with_escape (unescaped c) (literal bytes)
unfolding literal
literal_backslash b c bytes e e2 = rw e (rw e2 refl)

pub literal_cut : (bytes content : List ℕ) (more : ℕ) → literal bytes ≡ closed content more → LiteralCut bytes content more
literal_cut [] content more e = let clash : endless ≡ closed content more = sym (literal_end [] refl) ∙ e in absurd (cc)
literal_cut (b ∷ []) content more e =
    elim (cases_test (eqb b 34)) [
      | inl t ↦ quote_cut b [] content more t (sym (literal_quote (b ∷ []) (omega arith) (grind (arith, nat_tests))) ∙ e)
      | inr t ↦ let clash : endless ≡ closed content more = sym (literal_lone (b ∷ []) refl (grind (arith, nat_tests))) ∙ e in absurd (cc)
    ]
literal_cut (b ∷ c ∷ bytes) content more e =
    elim (cases_test (eqb b 34)) [
      | inl t ↦ quote_cut b (c ∷ bytes) content more t (sym (literal_quote (b ∷ c ∷ bytes) (omega arith) (grind (arith, nat_tests))) ∙ e)
      | inr t ↦
          elim (cases_test (eqb b 92)) [
            | inl t2 ↦
                let e2 : with_escape (unescaped c) (literal bytes) ≡ closed content more = sym (literal_backslash b c bytes t t2) ∙ e in
                let o = escape_inverse (unescaped c) (literal bytes) content more e2 in
                let i = front_inverse (o.0 ∷ []) 2 (literal bytes) content more o.1.1 in
                let l = literal_cut bytes i.0 i.1.0 i.1.1.0 in
                record {
                  front = b ∷ c ∷ l.front;
                  rest = l.rest;
                  parts = ap (λ r. b ∷ c ∷ r) l.parts;
                  count = omega (arith, l.count, i.1.1.1.1);
                  stays = λ ys.
                      literal_backslash b c (l.front ++ ys) t t2 ∙ ap (λ r. with_escape (unescaped c) r) (l.stays ys) ∙ ap (λ r. with_escape r (closed i.0 i.1.0)) o.1.0
                      ∙ sym (ap (λ r. with_front (o.0 ∷ []) 2 r) i.1.1.0) ∙ o.1.1;
                }
            | inr t2 ↦
                let plain : is_plain b ≡ true = rw t (rw t2 refl) in
                let e2 : with_front (b ∷ []) 1 (literal (c ∷ bytes)) ≡ closed content more = sym (literal_plain b (c ∷ bytes) plain) ∙ e in
                let i = front_inverse (b ∷ []) 1 (literal (c ∷ bytes)) content more e2 in
                let l = literal_cut (c ∷ bytes) i.0 i.1.0 i.1.1.0 in
                record {
                  front = b ∷ l.front;
                  rest = l.rest;
                  parts = ap (λ r. b ∷ r) l.parts;
                  count = omega (arith, l.count, i.1.1.1.1);
                  stays = λ ys. literal_plain b (l.front ++ ys) plain ∙ ap (λ r. with_front (b ∷ []) 1 r) (l.stays ys) ∙ sym (ap (λ r. with_front (b ∷ []) 1 r) i.1.1.0) ∙ e2;
                }
          ]
    ]
