-- The name in the line of a fault.
use Rattle.std.proofs.Common.{◌≡◌, ℕ, List, [], ◌∷◌, ◌++◌, length, codes, drop, sym, ap, ◌∙◌, append_assoc}
use Rattle.std.specs.Fmt.{decimal}
use Rattle.std.proofs.Math.Seq.{drop-append_seam}
use Rattle.cml_hub.specs.Performed.{fails}
use Rattle.cml_hub.specs.Runs.{output_of}

-- what is left of a line behind its start
left_is : (before text rest : List ℕ) → drop (length text) (drop (length before) (before ++ (text ++ rest))) ≡ rest
left_is before text rest = ap (drop (length text)) (drop-append_seam before (text ++ rest)) ∙ drop-append_seam text rest

pub name_is : (printed before text name line : List ℕ) (from start : ℕ) → length before ≡ from → length text ≡ start
    → printed ≡ before ++ (text ++ (name ++ 10 ∷ [])) → line ≡ drop start (drop from printed) →
    line ≡ name ++ 10 ∷ []
name_is printed before text name line from start len1 len2 is e =
    e ∙ (ap (λ k. drop k (drop from printed)) (sym len2)
    ∙ (ap (λ k. drop (length text) (drop k printed)) (sym len1)
    ∙ (ap (λ xs. drop (length text) (drop (length before) xs)) is ∙ left_is before text (name ++ 10 ∷ []))))

pub fault_line : (t : ℕ) (name : List ℕ) → output_of t (fails name) ≡ (codes "thread " ++ (decimal t ++ codes " fault ")) ++ (name ++ 10 ∷ [])
fault_line t name = simp append_assoc
