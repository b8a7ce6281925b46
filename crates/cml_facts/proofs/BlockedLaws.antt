-- A thread that waits for another one can't go on; and a ring that is told is one of threads that wait.
use Rattle.std.proofs.Common.{◌≡◌, ℕ, zero, suc, Bool, true, false, List, [], ◌∷◌, ◌++◌, inl, inr, refl, sym, ap, subst, ◌∙◌, arith}
use Rattle.std.specs.Prelude.{if◌then◌else◌, Option, Some, None, slice_get, All}
use Rattle.std.proofs.lemmas.List.Elements.{All-cons}
use Rattle.cml_value.specs.Value.{PlainBase, always, send, recv, swap, iget, mtake, mget, mswap, mail_recv, port_recv, join, at_tick, after_ticks, nack}
use Rattle.cml_value.specs.Group.{PlainGroup, bases}
use Rattle.cml_value.specs.declared.number.Tid.{Tid}
use Rattle.cml_scan.specs.World.{PlainThread, running, pending_on, ended, PlainWorld}
use Rattle.cml_scan.specs.Light.{is_full, has_ended, lit}
use Rattle.cml_scan.specs.Enabled.{leaf_of, WaitsFor, IsEnabled}
use Rattle.cml_scan.specs.declared.meet.Meet.{Meet}
use Rattle.cml_scan.specs.declared.meet.Meet.TheVariants.{Single, Pair}
use Rattle.cml_hub.specs.Runs.{terminal}
use Rattle.cml_hub.specs.Courses.{IsPending}
use Rattle.cml_facts.specs.Rings.{blocked_by, blocked_only, next_thread, next_threads, next_of, ring_among, told_ring, EachWaits, IsRing, IsLastRing, IsParty}
use Rattle.cml_facts.proofs.RingLaws.{is_ring}

-- the thread waits for this base event alone, which another thread blocks
pub record WaitsAlone (w : PlainWorld) (taker : ℕ → Option ℕ) (thread : Option PlainThread) (u : ℕ) : Type 0 where
  pub group : PlainGroup
  pub base : PlainBase
  pub waits : thread ≡ Some (pending_on group)
  pub alone : bases group ≡ base ∷ []
  pub blocked : blocked_by w taker base ≡ Some u

alone_by : (w : PlainWorld) (taker : ℕ → Option ℕ) (g : PlainGroup) (u : ℕ) (bs : List PlainBase) → bases g ≡ bs → blocked_only w taker bs ≡ Some u → WaitsAlone w taker (Some (pending_on g)) u
alone_by w taker g u [] is e = absurd (let h : None ≡ Some u = e in cc)
alone_by w taker g u (b ∷ []) is e = record {
  group = g;
  base = b;
  waits = refl;
  alone = is;
  blocked = e;
}
alone_by w taker g u (b ∷ c ∷ bs) is e = absurd (let h : None ≡ Some u = e in cc)

waits_itself : (w : PlainWorld) (taker : ℕ → Option ℕ) (t : PlainThread) (u : ℕ) → next_thread w taker t ≡ Some u → WaitsAlone w taker (Some t) u
waits_itself w taker running u e = absurd (let h : None ≡ Some u = e in cc)
waits_itself w taker (pending_on g) u e = alone_by w taker g u (bases g) refl e
waits_itself w taker ended u e = absurd (let h : None ≡ Some u = e in cc)

pub waits_alone : (w : PlainWorld) (taker : ℕ → Option ℕ) (threads : List PlainThread) (t u : ℕ) → next_of (next_threads w taker threads) t ≡ Some u → WaitsAlone w taker (slice_get threads t) u
waits_alone w taker [] t u e = absurd (let h : None ≡ Some u = e in cc)
waits_alone w taker (thread ∷ threads) zero u e = waits_itself w taker thread u e
waits_alone w taker (thread ∷ threads) (suc t) u e = waits_alone w taker threads t u e

only_leaf : (b c : PlainBase) (leaf : ℕ) → slice_get (b ∷ []) leaf ≡ Some c → b ≡ c
only_leaf b c zero e = cc
only_leaf b c (suc leaf) e = absurd (let h : None ≡ Some c = e in cc)

-- what it waits for is that base event
waited_is : (w : PlainWorld) (taker : ℕ → Option ℕ) (t u : ℕ) (tid : Tid) (leaf : ℕ) (b : PlainBase) (alone : WaitsAlone w taker (slice_get w.threads t) u) → tid.0 ≡ t
    → WaitsFor w tid leaf b → alone.base ≡ b
waited_is w taker t u tid leaf b alone same waits =
    only_leaf alone.base b leaf
    (sym (ap (λ bs. slice_get bs leaf) alone.alone)
    ∙ (sym (ap (λ thread. leaf_of thread leaf) alone.waits) ∙ (sym (ap (λ n. leaf_of (slice_get w.threads n) leaf) same) ∙ waits)))

missing : (there : Bool) (o : Option ℕ) (u : ℕ) → (if there then None else o) ≡ Some u → there ≡ true → ⊥
missing true o u e is = let h : None ≡ Some u = e in cc
missing false o u e is = cc

none_blocks : (u : ℕ) → None ≡ Some u → ⊥
none_blocks u e = cc

not_lit : (w : PlainWorld) (taker : ℕ → Option ℕ) (b : PlainBase) (u : ℕ) → blocked_by w taker b ≡ Some u → lit w b ≡ true → ⊥
not_lit w taker (always v) u e is = none_blocks u e
not_lit w taker (send c v) u e is = none_blocks u e
not_lit w taker (recv c) u e is = none_blocks u e
not_lit w taker (swap s v) u e is = none_blocks u e
not_lit w taker (iget i) u e is = none_blocks u e
not_lit w taker (mtake m) u e is = missing (is_full (slice_get w.mvars m)) (taker m) u e is
not_lit w taker (mget m) u e is = missing (is_full (slice_get w.mvars m)) (taker m) u e is
not_lit w taker (mswap m v) u e is = missing (is_full (slice_get w.mvars m)) (taker m) u e is
not_lit w taker (mail_recv b) u e is = none_blocks u e
not_lit w taker (port_recv p) u e is = none_blocks u e
not_lit w taker (join t) u e is = missing (has_ended (slice_get w.threads t)) (Some t) u e is
not_lit w taker (at_tick k) u e is = none_blocks u e
not_lit w taker (after_ticks k) u e is = none_blocks u e
not_lit w taker (nack k) u e is = none_blocks u e

-- it is no party to a row
no_party : (w : PlainWorld) (taker : ℕ → Option ℕ) (t u : ℕ) (row : Meet) → WaitsAlone w taker (slice_get w.threads t) u → IsEnabled w row → IsParty t row → ⊥
no_party w taker t u (Single tid leaf) alone enabled same =
    not_lit w taker enabled.0 u (subst (λ b. blocked_by w taker b ≡ Some u) (waited_is w taker t u tid leaf enabled.0 alone same enabled.1) alone.blocked) enabled.2
no_party w taker t u (Pair head i other j) alone (inl sent) (inl same) =
    none_blocks u (subst (λ b. blocked_by w taker b ≡ Some u) (waited_is w taker t u head i (send sent.0 sent.1) alone same sent.2) alone.blocked)
no_party w taker t u (Pair head i other j) alone (inl sent) (inr same) =
    none_blocks u (subst (λ b. blocked_by w taker b ≡ Some u) (waited_is w taker t u other j (recv sent.0) alone same sent.3) alone.blocked)
no_party w taker t u (Pair head i other j) alone (inr swapped) (inl same) =
    none_blocks u (subst (λ b. blocked_by w taker b ≡ Some u) (waited_is w taker t u head i (swap swapped.0 swapped.1) alone same swapped.3) alone.blocked)
no_party w taker t u (Pair head i other j) alone (inr swapped) (inr same) =
    none_blocks u (subst (λ b. blocked_by w taker b ≡ Some u) (waited_is w taker t u other j (swap swapped.0 swapped.2) alone same swapped.4) alone.blocked)

pub cant_go_on : (w : PlainWorld) (taker : ℕ → Option ℕ) (t u : ℕ) (row : Meet) → next_of (next_threads w taker w.threads) t ≡ Some u → IsEnabled w row → IsParty t row → ⊥
cant_go_on w taker t u row e enabled same = no_party w taker t u row (waits_alone w taker w.threads t u e) enabled same

-- who waits for another one is pending
next_pends : (w : PlainWorld) (taker : ℕ → Option ℕ) (t u : ℕ) → next_of (next_threads w taker w.threads) t ≡ Some u → IsPending w t
next_pends w taker t u e = let alone = waits_alone w taker w.threads t u e in (alone.group, alone.waits)

-- the first of a ring waits
first_pends : (w : PlainWorld) (taker : ℕ → Option ℕ) (t end : ℕ) (others : List ℕ) → EachWaits (next_threads w taker w.threads) (t ∷ (others ++ end ∷ [])) → IsPending w t
first_pends w taker t end [] h = next_pends w taker t end h.0
first_pends w taker t end (u ∷ others) h = next_pends w taker t u h.0

-- each of these waits, if the last one does
each_pends : (w : PlainWorld) (taker : ℕ → Option ℕ) (t end : ℕ) (others : List ℕ) → EachWaits (next_threads w taker w.threads) (t ∷ (others ++ end ∷ [])) → IsPending w end
    → All (IsPending w) (t ∷ (others ++ end ∷ []))
each_pends w taker t end [] h last = All-cons (IsPending w) t (end ∷ []) (first_pends w taker t end [] h) (All-cons (IsPending w) end [] last (λ k d lt. absurd (omega arith)))
each_pends w taker t end (u ∷ others) h last =
    All-cons (IsPending w) t (u ∷ (others ++ end ∷ [])) (first_pends w taker t end (u ∷ others) h) (each_pends w taker u end others h.1 last)

ring_pends : (w : PlainWorld) (taker : ℕ → Option ℕ) (ring : List ℕ) → IsRing (next_threads w taker w.threads) ring → All (IsPending w) ring
ring_pends w taker ring is =
    let round = subst (EachWaits (next_threads w taker w.threads)) is.goes_round is.each_waits in
    subst (All (IsPending w)) (sym is.goes_round) (each_pends w taker is.first is.first is.others round (first_pends w taker is.first is.first is.others round))

last_by : (w : PlainWorld) (taker : ℕ → Option ℕ) (ring : List ℕ) (b : Bool) → terminal w ≡ b → (if b then ring_among (next_threads w taker w.threads) else None) ≡ Some ring → IsLastRing w taker ring
last_by w taker ring true is e =
    let round = is_ring (next_threads w taker w.threads) ring e in
    record { end = is; wait = ring_pends w taker ring round; is_ring = round }
last_by w taker ring false is e = absurd (none_is ring e)
  where
    none_is : (ring : List ℕ) → None ≡ Some ring → ⊥
    none_is ring e = cc

pub last_ring : (w : PlainWorld) (taker : ℕ → Option ℕ) (ring : List ℕ) → told_ring w taker ≡ Some ring → IsLastRing w taker ring
last_ring w taker ring e = last_by w taker ring (terminal w) refl e
