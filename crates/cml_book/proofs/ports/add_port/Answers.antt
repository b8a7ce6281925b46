use Rattle.std.proofs.Common.{rules, refl, ◌≡◌, ◌∙◌, ◌++◌, ◌∷◌, [], ℕ, suc, List, length, ap, arith}
use Rattle.std.proofs.lemmas.List.{length_push, map-append}
use Rattle.cml_objects.specs.PlainQueue.{PlainQueue}
use Rattle.cml_value.specs.declared.number.McastId.{McastId}
use Rattle.cml_book.specs.MakePort.{with_port}
use Rattle.cml_book.specs.Views.{ports_of, queues_of}
use Rattle.cml_book.proofs.PortLemmas.{ports_more}
use Rattle.cml_book.proofs.ports.add_port.Goals as goal

pub returns-clause-added : goal.returns-clause-added
returns-clause-added g c =
    record {
      id = search rules;
      channels = c.add_at.ensures.ports ∙ ap (λ (ps : List (List ℕ)). with_port ps c.args.channel.0 c.len.result) c.room_at.ensures.ports
          ∙ ap (λ (n : ℕ). with_port (ports_of c.args.channels.now.items) c.args.channel.0 n) c.len.ensures;
      ports = ap queues_of c.in-Ok-make.ensures.objects ∙ map-append (λ (q : PlainQueue). q.items) c.room.new.self.objects (c.args.port ∷ [])
          ∙ ap (λ (os : List PlainQueue). queues_of os ++ c.args.port.items ∷ []) (c.room.ensures.kept.objects refl);
      err_channels = tt;
      err_ports = tt;
    }

pub returns-clause-told : goal.returns-clause-told
returns-clause-told g c = record { ok = search rules; err = tt; entries = c.tell_lit.ensures.entries }

pub returns-clause-still : goal.returns-clause-still
returns-clause-still g c =
    let a = ap length c.in-Ok-make.ensures.objects in
    let b = length_push c.room.new.self.objects c.args.port in
    record { few = omega (arith, a, b, c.in-Ok-room.ensures.len, c.requires.few); len = c.add_at.ensures.len ∙ c.room_at.ensures.len; waits = c.make.ensures.kept.waits ∙ c.room.ensures.kept.waits }

pub returns-clause-housed : goal.returns-clause-housed
returns-clause-housed g c =
    let old = c.args.channels.now.items in
    let port_channels : c.push_reserved.new.self.items ≡ c.args.port_channels.now.items ++ c.args.channel
    ∷ [] = c.push_reserved.ensures.items
    ∙ ap (λ (hs : List McastId). hs ++ c.args.channel ∷ []) c.in-Ok-reserve.ensures.items in
    let more : ports_of c.add_at.new.channels.items
    ≡ with_port (ports_of old) c.args.channel.0 (length c.args.ports.now.objects) = c.add_at.ensures.ports
    ∙ ap (λ (ps : List (List ℕ)). with_port ps c.args.channel.0 c.len.result) c.room_at.ensures.ports
    ∙ ap (λ (n : ℕ). with_port (ports_of old) c.args.channel.0 n) c.len.ensures in
    let long : length c.make.new.self.objects ≡ suc (length c.args.ports.now.objects)
    = (let a = ap length c.in-Ok-make.ensures.objects in let b = length_push c.room.new.self.objects c.args.port in omega (arith, a, b, c.in-Ok-room.ensures.len)) in
    rw (port_channels, long) (ports_more old _ c.args.port_channels.now.items c.args.channel (length c.args.ports.now.objects) c.requires.there c.requires.housed more)
