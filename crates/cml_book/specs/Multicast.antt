-- The command that sends a message on a multicast channel.
use Rattle.std.specs.Prelude.{ℕ, not, length, nat_lt, Ok}
use Rattle.cml_value.specs.Value.{PlainValue}
use Rattle.cml_value.specs.Limits.{value_fits}
use Rattle.cml_objects.specs.Posts.{any_is_full, posted}
use Rattle.cml_objects.specs.declared.delivery.PostFault.{PostFault}
use Rattle.cml_objects.specs.declared.delivery.PostFault.TheVariants as post
use Rattle.cml_book.specs.declared.refusal.Fault.{Fault}
use Rattle.cml_book.specs.declared.refusal.Fault.TheVariants.{Refused, Memory}
use Rattle.cml_scan.specs.World.{PlainWorld}
use Rattle.cml_book.specs.declared.refusal.Refusal.TheVariants.{Object, Deep, Full}
use Rattle.cml_book.specs.Outcomes.{Outcome, refuse_if}
use Rattle.cml_book.specs.MakePort.{ports_at}

-- The message comes to every port of the channel (Reppy's multicast); a channel without ports drops it. Where one of the ports is
-- full, it comes to none: that is a rule of our own.
abbrev pub multicast : PlainWorld → ℕ → PlainValue → Outcome (Unit {0})
multicast w x v = refuse_if (not (nat_lt x (length w.mchans))) Object
    (refuse_if (not (value_fits v)) Deep
    (refuse_if (any_is_full (ports_at w.mchans x) w.ports) Full
    (Ok (record w { ports = posted v (ports_at w.mchans x) w.ports }, tt))))

-- why a post was not made
abbrev pub fault_of_post : PostFault → Fault
fault_of_post post.Full = Refused Full
fault_of_post post.Memory = Memory
