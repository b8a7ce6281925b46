use Rattle.std.proofs.Common.{ap, ◌∙◌}
use Rattle.std.specs.Prelude.{option_map, slice_set}
use Rattle.cml_hub.proofs.MarkLemmas.{got_is}
use Rattle.cml_hub.proofs.Settled.{none_begins, one_begins, settled_at}
use Rattle.cml_hub.proofs.settle.settle.Goals as goal

pub settle_machine-child-requires : goal.settle_machine-child-requires
settle_machine-child-requires c =
    let ms = c.args.machines.now.items in
    let t = c.args.thread.0 in
    c.requires.settles c.index_mut.result.now (got_is ms t c.index_mut.result.now c.index_mut.result.now c.requires.there c.index_mut.ensures.value)

pub returns-in-None : goal.returns-in-None
returns-in-None c = λ end is.
    let ms = c.args.machines.now.items in
    let t = c.args.thread.0 in
    settled_at ms t c.index_mut.result.now c.settle_machine-child.new.machine end c.args.done _
    (got_is ms t c.index_mut.result.now c.index_mut.result.now c.requires.there c.index_mut.ensures.value) is
    c.settle_machine-child.ensures.machine
    (none_begins (slice_set ms t c.settle_machine-child.new.machine) c.args.done
    (option_map (λ b. b.value) c.settle_machine-child.result) (ap (option_map (λ b. b.value)) c.in-None.is)
    c.settle_machine-child.ensures.child)

pub returns-in-Some : goal.returns-in-Some
returns-in-Some c = λ end is.
    let ms = c.args.machines.now.items in
    let t = c.args.thread.0 in
    settled_at ms t c.index_mut.result.now c.settle_machine-child.new.machine end c.args.done _
    (got_is ms t c.index_mut.result.now c.index_mut.result.now c.requires.there c.index_mut.ensures.value) is
    c.settle_machine-child.ensures.machine
    (c.push_child.ensures
    ∙ one_begins (slice_set ms t c.settle_machine-child.new.machine) c.args.done
    (option_map (λ b. b.value) c.settle_machine-child.result) c.in-Some.child.value
    (ap (option_map (λ b. b.value)) c.in-Some.is) c.settle_machine-child.ensures.child)
