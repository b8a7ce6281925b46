use Rattle.std.proofs.Common.{◌∙◌, ap, Bor, List, ℕ}
use Rattle.std.specs.Option.{option_map}
use Rattle.cml_explain.specs.Names.{is_next}
use Rattle.cml_explain.proofs.OptionLemmas.{find_seen}
use Rattle.cml_explain.proofs.near.next_name.Goals as goal

pub returns : goal.returns
returns c = ap (option_map (λ (other : Bor (List ℕ)). other.now)) c.first_next.ensures ∙ find_seen (λ (other : Bor (List ℕ)). other.now) (is_next c.args.name.now) c.args.found.now
