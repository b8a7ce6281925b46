use Rattle.std.proofs.Common.{rules, ◌≡◌, ◌∙◌, ◌++◌, ℕ, List, true, false, ap}
use Rattle.cml_host.proofs.RefusedLemmas.{told_behind, told_plain}
use Rattle.cml_host.proofs.reason.explained.Goals as goal

pub returns-then-not-explains : goal.returns-then-not-explains
returns-then-not-explains c =
    let plain : c.args.explains ≡ false = search rules in
    told_plain c.args.explains c.args.line.now c.from_slice.result plain c.from_slice.ensures.items

pub returns : goal.returns
returns c =
    let so : c.args.explains ≡ true = search rules in
    told_behind c.args.explains c.args.line.now c.args.words.now c.extend_from_slice.new.self.items so
    (c.in_ok-extend_from_slice.ensures.items ∙ ap (λ (ts : List ℕ). ts ++ c.args.words.now) c.in_ok-told.ensures.items)
