use Rattle.std.proofs.Common.{◌∷◌, [], refl, ap, sym, ◌∙◌}
use Rattle.cml_index.specs.Slots.{slot_in}
use Rattle.cml_index.specs.Live as spec
use Rattle.cml_index.proofs.Kept.{cut_more, counted_more}
use Rattle.cml_index.proofs.live.Live.cut_lone.Goals as goal

pub returns-clause-live : goal.returns-clause-live
returns-clause-live c n = cut_more (spec.has_side n c.slot.result) (spec.have_side n []) (spec.have_side n (slot_in c.args.wait.now ∷ []))
    (spec.is_in c.args.self.now n) (spec.is_in c.cut_at.new.self n) (spec.is_live c.args.lanes.now n)
    (ap (λ s. spec.have_side n (s ∷ [])) (sym c.slot.ensures)) refl (c.cut_at.ensures.here n) (c.cut_at.ensures.elsewhere n) (c.requires.was n) (c.requires.over n)

pub returns-clause-counted : goal.returns-clause-counted
returns-clause-counted c n = counted_more (spec.has_side n c.slot.result) (spec.have_side n []) (spec.have_side n (slot_in c.args.wait.now ∷ []))
    (ap (λ s. spec.have_side n (s ∷ [])) (sym c.slot.ensures)) refl
    (λ here_. c.cut_at.ensures.heads n here_)
    (λ off left on two. c.cut_at.ensures.beside n off ∙ c.requires.counted n left (sym (c.cut_at.ensures.elsewhere n off) ∙ on) two)
