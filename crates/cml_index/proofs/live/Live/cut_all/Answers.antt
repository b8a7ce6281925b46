use Rattle.std.proofs.Common.{map, ap, ◌∙◌}
use Rattle.cml_index.specs.Slots.{slot_in}
use Rattle.cml_index.specs.Live as spec
use Rattle.cml_index.proofs.Alone.{one_only}
use Rattle.cml_index.proofs.live.Live.cut_all.Goals as goal

pub cut_lone-requires-clause-was : goal.cut_lone-requires-clause-was
cut_lone-requires-clause-was c n off = c.requires.was n (ap (λ ws. spec.have_side n (map slot_in ws)) (one_only c.args.waits.now _ c.in-len1.len_at_least c.in-len1.len_below) ∙ off)

pub cut_lone-requires-clause-counted : goal.cut_lone-requires-clause-counted
cut_lone-requires-clause-counted c n off = c.requires.counted n (ap (λ ws. spec.have_side n (map slot_in ws)) (one_only c.args.waits.now _ c.in-len1.len_at_least c.in-len1.len_below) ∙ off)
