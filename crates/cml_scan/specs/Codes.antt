-- Codes of the world, of its parts and of rows: trees of numbers from which they can be read back. The toolchain asks for them; no rule
-- uses them.
use Rattle.std.specs.Prelude.{◌≡◌, ℕ, List, Option, refl}
use Rattle.std.specs.Coded.{Coded, code_by, coded×, coded_list, coded_option, coded_ℕ}
use Rattle.std.proofs.Common.{ap, ◌∙◌}
use base.Stored.{Gv, gnum, gcons}
use Rattle.cml_value.specs.Value.{PlainValue, PlainBase}
use Rattle.cml_value.specs.Codes.{value_code, base_code}
use Rattle.cml_value.specs.Group.{PlainGroup}
use Rattle.cml_value.specs.GroupCodes.{group_code}
use Rattle.cml_scan.specs.World.{PlainThread, running, pending_on, ended, PlainNack, fresh_of, live, fired, held, PlainWorld, PlainEntry}
use Rattle.cml_scan.specs.Scan.{PlainOffer}
use Rattle.cml_scan.specs.declared.meet.Meet.{Meet}
use Rattle.cml_scan.specs.declared.meet.Meet.TheVariants.{Single, Pair}
use Rattle.cml_scan.specs.declared.object.Light.{Light}
use Rattle.cml_scan.specs.declared.object.Light.TheVariants as of

abbrev pub thread_gv : PlainThread → Gv
thread_gv running = gnum 0
thread_gv (pending_on g) = gcons (gnum 0) (group_code.code g)
thread_gv ended = gnum 1

pub thread_gv_inj : (x y : PlainThread) → thread_gv x ≡ thread_gv y → x ≡ y
thread_gv_inj running running p = refl
thread_gv_inj (pending_on g) (pending_on h) p = let e = group_code.inj g h (cc) in cc
thread_gv_inj ended ended p = refl
thread_gv_inj _ _ p = cc

abbrev pub thread_code : Coded PlainThread
thread_code = record { code = thread_gv; inj = thread_gv_inj }

abbrev pub nack_gv : PlainNack → Gv
nack_gv (fresh_of t) = gcons (gnum 0) (gnum t)
nack_gv live = gnum 0
nack_gv fired = gnum 1
nack_gv held = gnum 2

pub nack_gv_inj : (x y : PlainNack) → nack_gv x ≡ nack_gv y → x ≡ y
nack_gv_inj (fresh_of t) (fresh_of u) p = cc
nack_gv_inj live live p = refl
nack_gv_inj fired fired p = refl
nack_gv_inj held held p = refl
nack_gv_inj _ _ p = cc

abbrev pub nack_code : Coded PlainNack
nack_code = record { code = nack_gv; inj = nack_gv_inj }

abbrev pub VariableContents : Type 0
VariableContents = List (Option PlainValue)

abbrev pub variables_code : Coded VariableContents
variables_code = coded_list (coded_option value_code)

abbrev pub Queues : Type 0
Queues = List (List PlainValue)

abbrev pub queues_code : Coded Queues
queues_code = coded_list (coded_list value_code)

abbrev pub world_code : Coded PlainWorld
world_code =
    code_by
    (List PlainThread × (ℕ × (ℕ × (VariableContents × (VariableContents × (Queues × (List (List ℕ) × (Queues × (List PlainNack × ℕ)))))))))
    (coded× (coded_list thread_code)
    (coded× coded_ℕ
    (coded× coded_ℕ
    (coded× variables_code
    (coded× variables_code
    (coded× queues_code (coded× (coded_list (coded_list coded_ℕ)) (coded× queues_code (coded× (coded_list nack_code) coded_ℕ)))))))))
    (λ w. (w.threads, (w.channels, (w.swaps, (w.ivars, (w.mvars, (w.mailboxes, (w.mchans, (w.ports, (w.nacks, w.tick))))))))))
    (λ p.
    record {
      threads = p.0;
      channels = p.1.0;
      swaps = p.1.1.0;
      ivars = p.1.1.1.0;
      mvars = p.1.1.1.1.0;
      mailboxes = p.1.1.1.1.1.0;
      mchans = p.1.1.1.1.1.1.0;
      ports = p.1.1.1.1.1.1.1.0;
      nacks = p.1.1.1.1.1.1.1.1.0;
      tick = p.1.1.1.1.1.1.1.1.1;
    })
    (λ _. refl)

abbrev pub offer_code : Coded PlainOffer
offer_code = code_by (ℕ × (ℕ × PlainBase)) (coded× coded_ℕ (coded× coded_ℕ base_code)) (λ o. (o.thread, (o.leaf, o.base))) (λ p. record { thread = p.0; leaf = p.1.0; base = p.1.1 }) (λ _. refl)

abbrev pub entry_code : Coded PlainEntry
entry_code = code_by (ℕ × PlainGroup) (coded× coded_ℕ group_code) (λ e. (e.thread, e.group)) (λ p. record { thread = p.0; group = p.1 }) (λ _. refl)

abbrev pub meet_gv : Meet → Gv
meet_gv (Single t n) = gcons (gnum t.0) (gnum n)
meet_gv (Pair h i o j) = gcons (gcons (gnum h.0) (gnum i)) (gcons (gnum o.0) (gnum j))

pub meet_gv_inj : (x y : Meet) → meet_gv x ≡ meet_gv y → x ≡ y
meet_gv_inj (Single t n) (Single u m) p =
    let e : t.0 ≡ u.0 = cc in
    let f : n ≡ m = cc in
    ap (λ k. Single (record { 0 = k }) n) e ∙ ap (λ k. Single u k) f
meet_gv_inj (Pair h i o j) (Pair k l q m) p =
    let a : h.0 ≡ k.0 = cc in
    let b : i ≡ l = cc in
    let c : o.0 ≡ q.0 = cc in
    let d : j ≡ m = cc in
    ap (λ n. Pair (record { 0 = n }) i o j) a ∙ ap (λ n. Pair k n o j) b ∙ ap (λ n. Pair k l (record { 0 = n }) j) c ∙ ap (λ n. Pair k l q n) d
meet_gv_inj _ _ p = cc

abbrev pub meet_code : Coded Meet
meet_code = record { code = meet_gv; inj = meet_gv_inj }

abbrev pub light_gv : Light → Gv
light_gv (of.IVar i) = gcons (gnum 0) (gnum i.0)
light_gv (of.MVar m) = gcons (gnum 1) (gnum m.0)
light_gv (of.Mbox b) = gcons (gnum 2) (gnum b.0)
light_gv (of.Port p) = gcons (gnum 3) (gnum p.0)
light_gv (of.Joined t) = gcons (gnum 4) (gnum t.0)
light_gv (of.Alarm t) = gcons (gnum 5) (gnum t)
light_gv (of.Nack k) = gcons (gnum 6) (gnum k.0)

pub light_gv_inj : (x y : Light) → light_gv x ≡ light_gv y → x ≡ y
light_gv_inj (of.IVar i) (of.IVar j) p = let e : i.0 ≡ j.0 = cc in ap (λ n. of.IVar (record { 0 = n })) e
light_gv_inj (of.MVar m) (of.MVar n) p = let e : m.0 ≡ n.0 = cc in ap (λ k. of.MVar (record { 0 = k })) e
light_gv_inj (of.Mbox b) (of.Mbox c) p = let e : b.0 ≡ c.0 = cc in ap (λ n. of.Mbox (record { 0 = n })) e
light_gv_inj (of.Port a) (of.Port b) p = let e : a.0 ≡ b.0 = cc in ap (λ n. of.Port (record { 0 = n })) e
light_gv_inj (of.Joined t) (of.Joined u) p = let e : t.0 ≡ u.0 = cc in ap (λ n. of.Joined (record { 0 = n })) e
light_gv_inj (of.Alarm t) (of.Alarm u) p = cc
light_gv_inj (of.Nack k) (of.Nack l) p = let e : k.0 ≡ l.0 = cc in ap (λ n. of.Nack (record { 0 = n })) e
light_gv_inj _ _ p = cc

abbrev pub light_code : Coded Light
light_code = record { code = light_gv; inj = light_gv_inj }
