use Rattle.std.proofs.Common.{◌∙◌, ap, Bor, List, ℕ}
use Rattle.std.specs.Option.{option_map}
use Rattle.cml_explain.specs.Names.{is_close}
use Rattle.cml_explain.proofs.OptionLemmas.{find_seen}
use Rattle.cml_explain.proofs.near.close_name.Goals as goal

pub returns : goal.returns
returns c = ap (option_map (λ (other : Bor (List ℕ)). other.now)) c.first_close.ensures ∙ find_seen (λ (other : Bor (List ℕ)). other.now) (is_close c.args.name.now) c.args.found.now
