-- What has been read of a text so far.
use Rattle.std.proofs.Common.{◌≡◌, ℕ, ◌+◌, ◌-◌, ◌<◌, ◌≤◌, List, [], ◌∷◌, ◌++◌, length, refl, ap, sym, ◌∙◌, arith, Some, None}
use Rattle.std.proofs.lemmas.List.{append-nil}
use Rattle.cml_text.specs.declared.fault.TextFault.{TextFault}
use Rattle.cml_text.specs.declared.fault.TextFault.TheVariants as fault
use Rattle.cml_text.specs.declared.fault.FaultKind.TheVariants.{Unclosed}
use Rattle.cml_text.specs.declared.nest.OpenList.{OpenList}
use Rattle.cml_text.specs.Forms.{PlainSexpr}
use Rattle.cml_text.specs.Lexemes.{lexemes}
use Rattle.cml_text.specs.Texts.{first_fault}
use Rattle.cml_text.specs.Steps.{IsFault, BeginsWithFault}
use Rattle.cml_text.specs.Nests.{words_in, words_so_far, starts}
use Rattle.cml_text.proofs.NestLemmas.{starts-push}

-- the text was read up to this rest of it
pub record IsReadUpTo (text : List ℕ) (lists : List OpenList) (forms : List PlainSexpr) (rest : List ℕ) : Type 0 where
  pub within : length rest ≤ length text
  pub words : lexemes 0 0 text ≡ words_so_far lists forms ++ lexemes 0 (length text - length rest) rest
  pub faults : first_fault (lexemes 0 0 text) [] ≡ first_fault (lexemes 0 (length text - length rest) rest) (starts lists)

-- the place after a step
behind_at : (text rest behind : List ℕ) (at : ℕ) → length rest ≤ length text → at ≡ length text - length rest
    → length behind < length rest → at + (length rest - length behind) ≡ length text - length behind
behind_at text rest behind at within is shorter = omega arith

-- the text goes on with a fault
pub read_fault : (text rest : List ℕ) (lists : List OpenList) (forms : List PlainSexpr) (at : ℕ) (found : TextFault) → IsReadUpTo text lists forms rest → at ≡ length text - length rest →
    BeginsWithFault at rest found → IsFault found (first_fault (lexemes 0 0 text) [])
read_fault text rest lists forms at fault.Memory up is bad = tt
read_fault text rest lists forms at (fault.At kind place) up is bad =
    up.faults ∙ ap (λ n. first_fault (lexemes 0 n rest) (starts lists)) (sym is) ∙ ap (λ ls. first_fault ls (starts lists)) bad.1

nothing_left : (at : ℕ) (rest : List ℕ) → length rest ≡ 0 → lexemes 0 at rest ≡ []
unfolding lexemes
nothing_left at [] e = refl
nothing_left at (b ∷ rest) e = absurd (omega arith)

-- the end of the text with no list open
pub read_all : (text rest : List ℕ) (lists : List OpenList) (forms : List PlainSexpr) → IsReadUpTo text lists forms rest → length rest ≡ 0 → lists ≡ [] →
    (lexemes 0 0 text ≡ words_in forms) × (first_fault (lexemes 0 0 text) [] ≡ None)
read_all text rest lists forms up done none =
    let end = nothing_left (length text - length rest) rest done in (
      up.words ∙ ap (λ ls. words_so_far lists forms ++ ls) end ∙ append-nil (words_so_far lists forms) ∙ ap (λ l. words_so_far l forms) none,
      up.faults ∙ ap (λ ls. first_fault ls (starts lists)) end ∙ ap (λ l. first_fault [] (starts l)) none,
    )

-- and with a list open
pub read_unclosed : (text rest : List ℕ) (lists lists' : List OpenList) (forms : List PlainSexpr) (list : OpenList) → IsReadUpTo text lists forms rest → length rest ≡ 0 → lists ≡ lists' ++ list ∷ [] →
    first_fault (lexemes 0 0 text) [] ≡ Some (record { kind = Unclosed; at = list.start })
read_unclosed text rest lists lists' forms list up done is =
    let end = nothing_left (length text - length rest) rest done in
    up.faults ∙ ap (λ ls. first_fault ls (starts lists)) end ∙ ap (λ l. first_fault [] (starts l)) is ∙ ap (first_fault []) (starts-push lists' list)
