use Rattle.std.proofs.Common.{◌∙◌, ◌++◌, ◌∷◌, [], List, length, refl, ap, arith}
use Rattle.std.proofs.lemmas.List.{length_push}
use Rattle.cml_objects.specs.PlainMulticast.{PlainMulticast}
use Rattle.cml_book.specs.contracts.state.State.{the_view}
use Rattle.cml_book.specs.Views.{ports_of}
use Rattle.cml_book.proofs.ObjectLemmas.{stays_kept}
use Rattle.cml_book.proofs.PortLemmas.{channel_push, ports_stay}
use Rattle.cml_book.proofs.PostedLights.{make_mchan_true}
use Rattle.cml_book.proofs.state.State.make_mchan.Goals as goal

pub invariant_of-self-2 : goal.invariant_of-self-2
invariant_of-self-2 c =
    let s = c.self.inside in
    let few = c.self.invariant.0 in
    let pushed = c.push_reserved.ensures.items ∙ ap (λ (cs : List PlainMulticast). cs ++ c.new.result ∷ []) c.in_ok-reserve.ensures.items in
    let more = ap ports_of pushed ∙ channel_push s.mchans.items c.new.result c.new.ensures in
    let long = ap length pushed ∙ length_push s.mchans.items c.new.result in (
      record {
        few_threads = few.few_threads;
        few_channels = few.few_channels;
        few_swaps = few.few_swaps;
        few_ivars = few.few_ivars;
        few_mvars = few.few_mvars;
        few_mailboxes = few.few_mailboxes;
        few_mchans = omega (arith, long, c.len.ensures, c.if-len-ge-MAX_OBJECTS.false);
        few_ports = few.few_ports;
        few_nacks = few.few_nacks;
      },
      c.self.invariant.1,
      ports_stay s.mchans.items c.push_reserved.new.self.items s.port_channels.items _ c.self.invariant.2 more,
      c.self.invariant.3,
      c.self.invariant.4,
      c.self.invariant.5,
    )

pub returns-clause-kept : goal.returns-clause-kept
returns-clause-kept c = λ entries told. rw (← c.self.view_is) (stays_kept _ _ _ _ _ _ refl refl refl (make_mchan_true (the_view c.self.inside) told (ports_of c.push_reserved.new.self.items)))
