-- The parties of a row that is in the table, and what taking it does.
use Rattle.std.proofs.Common.{◌≡◌, ◌≢◌, ℕ, ◌+◌, ◌*◌, ◌<◌, ◌≤◌, Bool, true, false, not, ◌&&◌, ◌||◌, nat_eq, nat_lt}
use Rattle.std.proofs.Common.{cond, List, [], ◌∷◌, ◌++◌, length, map, refl, ap, sym, subst, ◌∙◌, arith, zero, suc}
use Rattle.std.proofs.Common.{Option, Some, None, Ok, Err, slice_index_or, zero-add}
use Rattle.std.specs.Prelude.{All, AllPairs, Contains, slice_get}
use Rattle.std.specs.List.{filter, flat_map, cons_option}
use Rattle.std.specs.Option.{option_copied, option_and_then, option_map}
use Rattle.std.specs.Borrow.{Bor}
use Rattle.std.proofs.lemmas.Bool.Decides.{nat_tests}
use Rattle.std.proofs.lemmas.List.{length-map, map-append}
use Rattle.std.proofs.lemmas.List.Elements.{All-nil, All-cons, All-head, All-tail, All-map, All-weaker, Contains-append_left, Contains-append_right}
use Rattle.cml_value.specs.Value.{PlainValue, PlainBase, always, mtake, mail_recv, port_recv, PlainFunction}
use Rattle.cml_value.specs.Group.{PlainGroup, PlainLeaf, PlainScope, bases, leaves, leaf_count, scopes, nacks_of, lies_outside, lost}
use Rattle.cml_value.specs.declared.number.Tid.{Tid}
use Rattle.cml_group.specs.Leaves.{pick, leaf_base}
use Rattle.cml_scan.specs.World.{PlainThread, running, pending_on, ended, PlainWorld, PlainEntry, pending, pending_from}
use Rattle.cml_scan.specs.Light.{light, has_item, lit}
use Rattle.cml_objects.specs.Handed.{handed}
use Rattle.cml_scan.specs.Scan.{scan, scan_of, has_row, is_among, meets, do_meet}
use Rattle.cml_scan.specs.Table.{IsThere, without, has_light, lit_after, nacks_among, IsNackOf}
use Rattle.cml_scan.specs.Enabled.{leaf_of}
use Rattle.cml_scan.specs.Order.{meet_at}
use Rattle.cml_scan.specs.declared.object.Light.{Light}
use Rattle.cml_scan.specs.declared.object.Light.TheVariants as of
use Rattle.cml_scan.specs.declared.meet.Meet.{Meet}
use Rattle.cml_scan.specs.declared.meet.Meet.TheVariants.{Single, Pair}
use Rattle.cml_scan.proofs.Told.{scan_of-told}
use Rattle.cml_scan.proofs.Enabling.{scan-members, Contains-has_row, has_row-scan}
use Rattle.cml_book.specs.Commit.{awaited, group_awaited, base_awaited, base_or_unit, wraps_or_none, commit, after, hands, given, taken, copied, rest_of, released, resume}
use Rattle.cml_book.specs.Threads.{flat_of}
use Rattle.cml_book.specs.Keeping.{Room, FitsIn, Keeps, AreLiveNacks, nack_light, lights_in, times_awaited}
use Rattle.cml_book.specs.Clock.{bases_awaited}
use Rattle.cml_book.specs.Leaving.{turned_off, unless_item, can_give, is_left}
use Rattle.cml_book.specs.Parties.{WaitsOn}
use Rattle.cml_book.specs.Resumes.{PlainResume}
use Rattle.cml_book.specs.declared.refusal.Refusal.TheVariants as refusal
use Rattle.cml_book.proofs.NackLemmas.{nacks-resume, get-set_other}
use Rattle.cml_book.proofs.Pendings.{without_two}
use Rattle.cml_book.proofs.Awaited.{awaited-resume}
use Rattle.cml_book.proofs.Dimmed.{left_lights, put_out_after, can_give_after, lit_gives, taken-threads, taken-nacks, single_apart, pair_apart, told_dimmed, keeps_dim, right_single, right_pair}
use Rattle.cml_book.proofs.Retold.{lit_more}
use Rattle.cml_book.proofs.Keepings.{keeps_same, keeps_resume}

-- where the row is in the table, it is taken
pub commit_is : (w : PlainWorld) (row : Meet) → has_row (scan w) row ≡ true → commit w row ≡ Ok (after w row, hands w row)
commit_is w row h = rw h refl

-- what the table shows is the scan
pub scan_is : (w : PlainWorld) (es : List PlainEntry) (told : Light → Bool) (room : Room) → Keeps w es told room → scan_of es told ≡ scan w
scan_is w es told room k = ap (λ xs. scan_of xs told) k.told_groups ∙ scan_of-told w told k.told_lights

-- what holds of a pending thread's entry
entry_at : (P : PlainEntry → Type 0) (n i : ℕ) (ts : List PlainThread) (g : PlainGroup) → slice_get ts i ≡ Some (pending_on g) → All P (pending_from n ts) → P (record { thread = n + i; group = g })
entry_at P n i [] g h all = cc
entry_at P n zero (running ∷ ts) g h all = cc
entry_at P n zero (pending_on x ∷ ts) g h all =
    let same : x ≡ g = cc in
    let number : n + zero ≡ n = omega arith in
    rw (number, ← same) (All-head P (record { thread = n; group = x }) (pending_from (n + 1) ts) all)
entry_at P n zero (ended ∷ ts) g h all = cc
entry_at P n (suc i) (running ∷ ts) g h all = let number : n + suc i ≡ (n + 1) + i = omega arith in rw number (entry_at P (n + 1) i ts g h all)
entry_at P n (suc i) (pending_on x ∷ ts) g h all =
    let number : n + suc i ≡ (n + 1) + i = omega arith in
    rw number (entry_at P (n + 1) i ts g h (All-tail P (record { thread = n; group = x }) (pending_from (n + 1) ts) all))
entry_at P n (suc i) (ended ∷ ts) g h all = let number : n + suc i ≡ (n + 1) + i = omega arith in rw number (entry_at P (n + 1) i ts g h all)

-- a pending thread is there
thread_at : (n i : ℕ) (ts : List PlainThread) (g : PlainGroup) → slice_get ts i ≡ Some (pending_on g) → (k : ℕ)
    × (e : PlainEntry) × (k < length (pending_from n ts)) × (slice_index_or (pending_from n ts) k e ≡ e)
    × (e.thread ≡ n + i)
thread_at n i [] g h = cc
thread_at n zero (running ∷ ts) g h = cc
thread_at n zero (pending_on x ∷ ts) g h = (0, record { thread = n; group = x }, omega arith, refl, omega arith)
thread_at n zero (ended ∷ ts) g h = cc
thread_at n (suc i) (running ∷ ts) g h = let t = thread_at (n + 1) i ts g h in (t.0, t.1, t.2, t.3, t.4 ∙ omega arith)
thread_at n (suc i) (pending_on x ∷ ts) g h = let t = thread_at (n + 1) i ts g h in (suc t.0, t.1, omega (arith, t.2), t.3, t.4 ∙ omega arith)
thread_at n (suc i) (ended ∷ ts) g h = let t = thread_at (n + 1) i ts g h in (t.0, t.1, t.2, t.3, t.4 ∙ omega arith)

-- a party of an enabled row: it waits on a group that has the leaf
pub record Party (w : PlainWorld) (room : Room) (t n : ℕ) (b : PlainBase) : Type 0 where
  pub group : PlainGroup
  pub waits : slice_get w.threads t ≡ Some (pending_on group)
  pub base_is : base_or_unit (pick group n) ≡ b
  pub within : n < leaf_count group
  pub alive : AreLiveNacks (nacks_of (scopes group)) w.nacks
  pub fits : FitsIn group room

pick_at : (ls : List PlainLeaf) (n : ℕ) (b : PlainBase) → slice_get (map (λ l. l.base) ls) n ≡ Some b → (base_or_unit (slice_get ls n) ≡ b) × (n < length ls)
pick_at [] n b h = cc
pick_at (l ∷ ls) zero b h = (cc, omega arith)
pick_at (l ∷ ls) (suc n) b h = let p = pick_at ls n b h in (p.0, omega (arith, p.1))

pub party_of : (w : PlainWorld) (es : List PlainEntry) (told : Light → Bool) (room : Room) (t n : ℕ) (b : PlainBase)
    → Keeps w es told room → leaf_of (slice_get w.threads t) n ≡ Some b → Party w room t n b
party_of w es told room t n b k h = at (slice_get w.threads t) refl h
  where
    at : (o : Option PlainThread) → slice_get w.threads t ≡ o → leaf_of o n ≡ Some b → Party w room t n b
    at (Some (pending_on g)) e h =
        let p = pick_at (leaves g) n b h in
        record {
          group = g;
          waits = e;
          base_is = p.0;
          within = p.1;
          alive = record { each = λ j. let a = nacks-resume j 0 t w.threads g e in let l = k.nacks_live j in omega arith };
          fits = entry_at (λ x. FitsIn x.group room) 0 t w.threads g e (rw (← k.told_groups) k.roomy);
        }
    at _ e h = cc

pub single_party : (w : PlainWorld) (es : List PlainEntry) (told : Light → Bool) (room : Room) (t : Tid) (n : ℕ) → Keeps w es told room → has_row (scan w) (Single t n) ≡ true
    → (b : PlainBase) × Party w room t.0 n b × (lit w b ≡ true)
single_party w es told room t n k h =
    let e = (scan-members w (Single t n)).0 (Contains-has_row (scan w) (Single t n) h) in
    (e.0, party_of w es told room t.0 n e.0 k e.1, e.2)

-- the two parties of a pair, which differ, and whose base events meet
pub record Parties (w : PlainWorld) (room : Room) (h : Tid) (i : ℕ) (o : Tid) (j : ℕ) : Type 0 where
  pub base : PlainBase
  pub other_base : PlainBase
  pub head : Party w room h.0 i base
  pub other : Party w room o.0 j other_base
  pub meet : meets base other_base ≡ true
  pub differ : h.0 ≢ o.0

pub pair_parties : (w : PlainWorld) (es : List PlainEntry) (told : Light → Bool) (room : Room) (h : Tid) (i : ℕ)
    (o : Tid) (j : ℕ) → Keeps w es told room → has_row (scan w) (Pair h i o j) ≡ true → Parties w room h i o j
pair_parties w es told room h i o j k has = at (leaf_of (slice_get w.threads h.0) i) (leaf_of (slice_get w.threads o.0) j) refl refl (sym (has_row-scan w (Pair h i o j)) ∙ has)
  where
    both : (a b c : Bool) → not a && (b && c) ≡ true → (a ≡ false) × (b ≡ true)
    both false true c e = (refl, refl)
    both false false c e = cc
    both true b c e = cc

    apart : (m n : ℕ) → nat_eq m n ≡ false → m ≢ n
    apart m n e = grind (arith, nat_tests)

    at : (p q : Option PlainBase) → leaf_of (slice_get w.threads h.0) i ≡ p → leaf_of (slice_get w.threads o.0) j ≡ q
        → meet_at h.0 o.0 (leaf_of (slice_get w.threads h.0) i) (leaf_of (slice_get w.threads o.0) j) ≡ true → Parties w room h i o j
    at None q is be e = (let no : meet_at h.0 o.0 None (leaf_of (slice_get w.threads o.0) j) ≡ true = rw is at e in cc)
    at (Some b) None is be e = (let no : meet_at h.0 o.0 (Some b) None ≡ true = rw (is, be) at e in cc)
    at (Some b) (Some d) is be e =
        let yes_ : do_meet h.0 b o.0 d ≡ true = rw (is, be) at e in
        let e = both (nat_eq h.0 o.0) (meets b d) (not (meets d b) || nat_lt h.0 o.0) yes_ in
        record {
          base = b;
          other_base = d;
          head = party_of w es told room h.0 i b k is;
          other = party_of w es told room o.0 j d k be;
          meet = e.1;
          differ = apart h.0 o.0 e.0;
        }

-- the group that a call finds
pub flat_is : (r : Option (Bor PlainGroup)) (f : Bor PlainGroup) (w : PlainWorld) (t : ℕ) (g : PlainGroup)
    → option_copied r ≡ option_and_then flat_of (slice_get w.threads t) → slice_get w.threads t ≡ Some (pending_on g)
    → r ≡ Some f → f.now ≡ g
flat_is r f w t g e waits is =
    let there : option_and_then flat_of (slice_get w.threads t) ≡ Some g = rw waits refl in
    let both : option_copied (Some f) ≡ Some g = rw is at (e ∙ there) in
    cc

pub found : (r : Option (Bor PlainGroup)) (w : PlainWorld) (t : ℕ) (g : PlainGroup) → option_copied r
    ≡ option_and_then flat_of (slice_get w.threads t) → slice_get w.threads t ≡ Some (pending_on g) → r ≡ None → ⊥
found r w t g e waits is =
    let there : option_and_then flat_of (slice_get w.threads t) ≡ Some g = rw waits refl in
    let both : option_copied None ≡ Some g = subst (λ (x : Option (Bor PlainGroup)). option_copied x ≡ Some g) is (e ∙ there) in
    cc

-- a pending thread is there
pub is_there : (w : PlainWorld) (es : List PlainEntry) (t : Tid) (g : PlainGroup) → slice_get w.threads t.0 ≡ Some (pending_on g) → es ≡ pending_from 0 w.threads → IsThere es t
is_there w es t g waits same = let a = thread_at 0 t.0 w.threads g waits in rw same (a.0, a.1, a.2, a.3, a.4 ∙ zero-add t.0)

pub waits_on : (w : PlainWorld) (room : Room) (t n : ℕ) (b : PlainBase) → Party w room t n b → WaitsOn w.threads w.nacks t n (group_awaited w t)
waits_on w room t n b p = rw p.waits (record { waits = p.waits; within = p.within; alive = p.alive })

-- the party of a row that is taken alone, where a call found its group
pub record Alone (w : PlainWorld) (room : Room) (t : Tid) (n : ℕ) (flat : PlainGroup) : Type 0 where
  pub base : PlainBase
  pub party : Party w room t.0 n base
  pub is_lit : lit w base ≡ true
  pub same : flat ≡ party.group

pub alone : (w : PlainWorld) (es : List PlainEntry) (told : Light → Bool) (room : Room) (t : Tid) (n : ℕ)
    (r : Option (Bor PlainGroup)) (f : Bor PlainGroup) → Keeps w es told room → has_row (scan w) (Single t n) ≡ true
    → option_copied r ≡ option_and_then flat_of (slice_get w.threads t.0) → r ≡ Some f → Alone w room t n f.now
alone w es told room t n r f k has e is =
    let s = single_party w es told room t n k has in
    record { base = s.0; party = s.1; is_lit = s.2; same = flat_is r f w t.0 s.1.group e s.1.waits is }

-- the parties of a pair, where calls found their groups
pub record Met (w : PlainWorld) (room : Room) (h : Tid) (i : ℕ) (o : Tid) (j : ℕ) (first second : PlainGroup) : Type 0 where
  pub parties : Parties w room h i o j
  pub first_same : first ≡ parties.head.group
  pub second_same : second ≡ parties.other.group

pub met : (w : PlainWorld) (es : List PlainEntry) (told : Light → Bool) (room : Room) (h : Tid) (i : ℕ) (o : Tid) (j : ℕ)
    (r1 : Option (Bor PlainGroup)) (f1 : Bor PlainGroup) (r2 : Option (Bor PlainGroup)) (f2 : Bor PlainGroup)
    → Keeps w es told room → has_row (scan w) (Pair h i o j) ≡ true
    → option_copied r1 ≡ option_and_then flat_of (slice_get w.threads h.0) → r1 ≡ Some f1
    → option_copied r2 ≡ option_and_then flat_of (slice_get w.threads o.0) → r2 ≡ Some f2
    → Met w room h i o j f1.now f2.now
met w es told room h i o j r1 f1 r2 f2 k has e1 is1 e2 is2 =
    let p = pair_parties w es told room h i o j k has in
    record {
      parties = p;
      first_same = flat_is r1 f1 w h.0 p.head.group e1 p.head.waits is1;
      second_same = flat_is r2 f2 w o.0 p.other.group e2 p.other.waits is2;
    }

-- what is taken alone is the same before and after its thread goes on
given_after : (w : PlainWorld) (t n : ℕ) (b : PlainBase) → given (released w t n) b ≡ given w b
given_after w t n (always v) = refl
given_after w t n _ = refl

taken_after : (w : PlainWorld) (t n : ℕ) (b : PlainBase) → taken (released w t n) b ≡ released (taken w b) t n
taken_after w t n (always v) = refl
taken_after w t n _ = refl

-- the nacks of a thread that goes are among those of the threads that go
nack_among : (gone : List Tid) (n i : ℕ) (ts : List PlainThread) (g : PlainGroup) (k : ℕ) → slice_get ts i ≡ Some (pending_on g) → is_among gone (n + i) ≡ true → Contains (nacks_of (scopes g)) k
    → Contains (nacks_among gone (pending_from n ts)) k
nack_among gone n i [] g k h goes there = cc
nack_among gone n zero (running ∷ ts) g k h goes there = cc
nack_among gone n zero (pending_on x ∷ ts) g k h goes there =
    let same : x ≡ g = cc in
    let number : n + zero ≡ n = omega arith in
    let own : is_among gone n ≡ true = ap (is_among gone) (sym number) ∙ goes in
    rw own (Contains-append_left (nacks_of (scopes x)) (flat_map (λ e. nacks_of (scopes e.group)) (filter (λ e. is_among gone e.thread) (pending_from (n + 1) ts))) k (rw same there))
nack_among gone n zero (ended ∷ ts) g k h goes there = cc
nack_among gone n (suc i) (running ∷ ts) g k h goes there = let number : n + suc i ≡ (n + 1) + i = omega arith in nack_among gone (n + 1) i ts g k h (ap (is_among gone) (sym number) ∙ goes) there
nack_among gone n (suc i) (pending_on x ∷ ts) g k h goes there =
    let number : n + suc i ≡ (n + 1) + i = omega arith in
    at (is_among gone n) (nack_among gone (n + 1) i ts g k h (ap (is_among gone) (sym number) ∙ goes) there)
  where
    at : (b : Bool) → Contains (nacks_among gone (pending_from (n + 1) ts)) k
        → Contains (flat_map (λ e. nacks_of (scopes e.group))
        (cond b (record { thread = n; group = x } ∷ filter (λ e. is_among gone e.thread) (pending_from (n + 1) ts))
        (filter (λ e. is_among gone e.thread) (pending_from (n + 1) ts)))) k
    at true ih = Contains-append_right (nacks_of (scopes x)) (nacks_among gone (pending_from (n + 1) ts)) k ih
    at false ih = ih
nack_among gone n (suc i) (ended ∷ ts) g k h goes there = let number : n + suc i ≡ (n + 1) + i = omega arith in nack_among gone (n + 1) i ts g k h (ap (is_among gone) (sym number) ∙ goes) there

only : (k : ℕ) → Contains (k ∷ []) k
only k = (0, omega arith, refl)

-- the nacks that a leaf loses are nacks of the group
lost_there : (n : ℕ) (ss : List PlainScope) → All (Contains (nacks_of ss)) (nacks_of (filter (lies_outside n) ss))
lost_there n [] = All-nil (Contains [])
lost_there n (s ∷ ss) = at (lies_outside n s)
    (All-weaker (Contains (nacks_of ss)) (Contains (s.nack ∷ nacks_of ss))
    (λ k h. Contains-append_right (s.nack ∷ []) (nacks_of ss) k h) (nacks_of (filter (lies_outside n) ss))
    (lost_there n ss))
  where
    at : (b : Bool) → All (Contains (s.nack ∷ nacks_of ss)) (nacks_of (filter (lies_outside n) ss))
        → All (Contains (s.nack ∷ nacks_of ss))
        (nacks_of (cond b (s ∷ filter (lies_outside n) ss) (filter (lies_outside n) ss)))
    at true ih = All-cons (Contains (s.nack ∷ nacks_of ss)) s.nack (nacks_of (filter (lies_outside n) ss)) (Contains-append_left (s.nack ∷ []) (nacks_of ss) s.nack (only s.nack)) ih
    at false ih = ih

-- so a table whose changes are sure takes them
pub sure_lights : (gone : List Tid) (ts : List PlainThread) (es : List PlainEntry) (t n : ℕ) (g : PlainGroup) → slice_get ts t ≡ Some (pending_on g) → es ≡ pending_from 0 ts → is_among gone t ≡ true
    → All (IsNackOf (nacks_among gone es)) (map nack_light (lost g n))
sure_lights gone ts es t n g waits same goes =
    All-map (IsNackOf (nacks_among gone es)) nack_light (lost g n)
    (All-weaker (Contains (nacks_of (scopes g))) (λ k. IsNackOf (nacks_among gone es) (nack_light k))
    (λ k h. rw same (nack_among gone 0 t ts g k waits (ap (is_among gone) (zero-add t) ∙ goes) h)) (lost g n)
    (lost_there n (scopes g)))

-- the lights that the table is told
pub told_lights : (before pushed told : List Light) (flat g : PlainGroup) (n : ℕ) → before ≡ [] → flat ≡ g → pushed
    ≡ before ++ map nack_light (lost flat n) → told ≡ pushed → told ≡ map nack_light (lost g n)
told_lights before pushed told flat g n none is e f = f ∙ e ∙ rw (none, is) refl

-- the thread is among those that go
pub gone_one : (t : Tid) → is_among (t ∷ []) t.0 ≡ true
gone_one t = one t.0
  where
    one : (n : ℕ) → nat_eq n n || false ≡ true
    one n = grind (arith, nat_tests)

-- what a book keeps when one thread has gone on, and its base was taken
pub keeps_single : (w : PlainWorld) (es : List PlainEntry) (told : Light → Bool) (room : Room) (t : Tid) (n : ℕ)
    (g : PlainGroup) (b : PlainBase) (es' : List PlainEntry) (told' : Light → Bool) (w1 w2 : PlainWorld)
    (lit unlit : List Light) (room' : Room)
    → Keeps w es told room → slice_get w.threads t.0 ≡ Some (pending_on g) → can_give w b ≡ true → w1 ≡ released w t.0 n → w2 ≡ taken w1 b
    → lit ≡ map nack_light (lost g n) → unlit ≡ turned_off w b ++ left_lights (bases_awaited (pending w)) (bases g) [] → es' ≡ without (t ∷ []) es
    → ((l : Light) → told' l ≡ lit_after lit unlit l (told l)) → room' ≡ room
    → Keeps w2 es' told' room'
keeps_single w es told room t n g b es' told' w1 w2 lit unlit room' k waits gives one two lights dark gone tells size =
    let r : PlainWorld = released w t.0 n in
    let world : w2 ≡ taken r b = two ∙ ap (λ x. taken x b) one in
    let out : List Light = turned_off r b ++ left_lights (bases_awaited (pending w)) (bases g) [] in
    let is_out : unlit ≡ out = dark ∙ ap (λ x. x ++ left_lights (bases_awaited (pending w)) (bases g) []) (sym (put_out_after w t.0 n b)) in
    let k1 = keeps_resume w es told room t n g k waits in
    let counts : (u : ℕ) → times_awaited u (bases_awaited (pending w)) ≡ times_awaited u (bases_awaited (pending r)) + (times_awaited u (bases g) + times_awaited u []) =
    λ u. let e = awaited-resume u 0 t.0 w.threads g waits in omega arith in
    let k2 = keeps_dim r (taken r b) (without (t ∷ []) es) (λ l. lit_after (map nack_light (lost g n)) [] l (told l)) told' room out k1 (taken-threads r b) (taken-nacks r b)
    (λ l. tells l ∙ ap (λ x. lit_after x unlit l (told l)) lights ∙ ap (λ x. lit_after (map nack_light (lost g n)) x l (told l)) is_out
    ∙ told_dimmed (lost g n) out (single_apart r b (bases_awaited (pending w)) (bases g) []) l (told l))
    (right_single r b (bases_awaited (pending w)) (bases g) [] (can_give_after w t.0 n b ∙ gives) counts) in
    rw (world, size) (keeps_same (taken r b) (without (t ∷ []) es) told' room es' told' gone (λ l. refl) k2)

pub room_same : (a b a' b' : ℕ) → a' ≡ a → b' ≡ b → (let r : Room = record { lit = a'; unlit = b' } in r) ≡ record { lit = a; unlit = b }
room_same a b a' b' e f = rw (e, f) refl

-- a row that is taken alone has what it gives
base_found : (o : Option PlainLeaf) (x : PlainBase) → option_map (λ l. l.base) o ≡ Some x → base_or_unit o ≡ x
base_found None x e = cc
base_found (Some l) x e = cc

pub single_gives : (w : PlainWorld) (room : Room) (t n : ℕ) (b : PlainBase) (p : Party w room t n b) (flat : PlainGroup)
    (x : PlainBase) → lit w b ≡ true → flat ≡ p.group → leaf_base flat n ≡ Some x → can_give w x ≡ true
single_gives w room t n b p flat x on same at_leaf =
    let base : x ≡ b = sym (base_found (pick flat n) x at_leaf) ∙ ap (λ g. base_or_unit (pick g n)) same ∙ p.base_is in
    rw base (lit_gives w b on)

-- which lights the table is told to be turned off
pub told_out : (w : PlainWorld) (b : PlainBase) (before pushed more told : List Light) (flat g : PlainGroup) → before ≡ [] → flat ≡ g → pushed ≡ before ++ turned_off w b
    → more ≡ pushed ++ left_lights (bases_awaited (pending w)) (bases flat) [] → told ≡ more → told ≡ turned_off w b ++ left_lights (bases_awaited (pending w)) (bases g) []
told_out w b before pushed more told flat g none is e1 e2 f = f ∙ e2 ∙ rw (e1, none, is) refl

pub told_both_out : (w : PlainWorld) (before pushed more told : List Light) (flat1 flat2 a g : PlainGroup) → before ≡ [] → flat1 ≡ a → flat2 ≡ g
    → pushed ≡ before ++ left_lights (bases_awaited (pending w)) (bases flat1) (bases flat2) → more ≡ pushed ++ left_lights (bases_awaited (pending w)) (bases flat2) (bases flat1) → told ≡ more
    → told ≡ left_lights (bases_awaited (pending w)) (bases a) (bases g) ++ left_lights (bases_awaited (pending w)) (bases g) (bases a)
told_both_out w before pushed more told flat1 flat2 a g none is1 is2 e1 e2 f = f ∙ e2 ∙ rw (e1, none, is1, is2) refl

-- the base that the table was told of is the one that is taken
pub base_at : (w : PlainWorld) (t n : ℕ) (g flat : PlainGroup) (x : PlainBase) → slice_get w.threads t ≡ Some (pending_on g) → flat ≡ g → leaf_base flat n ≡ Some x → x ≡ base_awaited w t n
base_at w t n g flat x waits same found =
    sym (base_found (pick flat n) x found) ∙ ap (λ f. base_or_unit (pick f n)) (same ∙ sym (ap awaited waits))

pub chosen_at : (w : PlainWorld) (t n : ℕ) (b : PlainBase) (ws : List PlainFunction) → pick (group_awaited w t) n ≡ Some (record { base = b; wraps = ws }) → b ≡ base_awaited w t n
chosen_at w t n b ws picked = sym (ap base_or_unit picked)

pub copied_after : (w : PlainWorld) (t n : ℕ) (b : PlainBase) → copied (released w t n) b ≡ copied w b
copied_after w t n (always v) = refl
copied_after w t n _ = refl

few_unless : (i : Bool) (l : Light) → length (unless_item i l) ≤ 1
few_unless true l = omega arith
few_unless false l = omega arith

-- at most one light is turned off for a base
pub few_out : (w : PlainWorld) (b : PlainBase) → length (turned_off w b) ≤ 1
few_out w (mtake m) = omega arith
few_out w (mail_recv b) = few_unless (has_item (Some (rest_of (slice_get w.mailboxes b)))) (of.Mbox (record { 0 = b }))
few_out w (port_recv p) = few_unless (has_item (Some (rest_of (slice_get w.ports p)))) (of.Port (record { 0 = p }))
few_out w _ = omega arith

-- no more lights are left than there are leaves
pub few_left : (p : PlainBase → Bool) (bs : List PlainBase) → length (lights_in (filter p bs)) ≤ length bs
few_left p [] = omega arith
few_left p (b ∷ bs) = at (p b) (light b) refl (few_left p bs)
  where
    one : (o : Option Light) → length (cons_option o (lights_in (filter p bs))) ≤ suc (length (lights_in (filter p bs)))
    one None = omega arith
    one (Some l) = omega arith

    at : (s : Bool) (o : Option Light) → light b ≡ o → length (lights_in (filter p bs)) ≤ length bs → length (lights_in (cond s (b ∷ filter p bs) (filter p bs))) ≤ suc (length bs)
    at true o e ih = let more = one (light b) in omega arith
    at false o e ih = omega arith

-- there is room for the lights that are turned off
pub room_for_out : (w : PlainWorld) (b : PlainBase) (before pushed : List Light) (flat g : PlainGroup) (room : ℕ) → before ≡ [] → flat ≡ g → pushed ≡ before ++ turned_off w b
    → 2 * leaf_count g + 1 ≤ room → length pushed + leaf_count flat ≤ room
room_for_out w b before pushed flat g room none is e fits =
    let size : length pushed ≡ length (turned_off w b) = ap length e ∙ ap (λ x. length (x ++ turned_off w b)) none in
    let one = few_out w b in
    rw (is, size) (omega (arith, one, fits))

pub room_for_both : (all : List PlainBase) (before pushed : List Light) (flat1 flat2 a g : PlainGroup) (room : ℕ) → before ≡ [] → flat1 ≡ a → flat2 ≡ g
    → pushed ≡ before ++ left_lights all (bases flat1) (bases flat2) → 2 * leaf_count a + 1 ≤ room → 2 * leaf_count g + 1 ≤ room → length pushed + leaf_count flat2 ≤ room
room_for_both all before pushed flat1 flat2 a g room none is1 is2 e fits1 fits2 =
    let size : length pushed ≡ length (left_lights all (bases a) (bases g)) = ap length e ∙ ap (λ x. length (x ++ left_lights all (bases flat1) (bases flat2))) none ∙ rw (is1, is2) refl in
    let most : length (left_lights all (bases a) (bases g)) ≤ length (bases a) = few_left (is_left all (bases a) (bases g)) (bases a) in
    let leaves_are : length (bases a) ≡ leaf_count a = length-map (leaves a) (λ (l : PlainLeaf). l.base) in
    rw (is2, size) (omega (arith, most, leaves_are, fits1, fits2))

-- what the call for a single returns
pub single_returns : (w : PlainWorld) (t : Tid) (n : ℕ) (b : PlainBase) (ws : List PlainFunction) (v : PlainValue) (fs : List ℕ) (w1 w2 : PlainWorld) (r : PlainResume)
    → has_row (scan w) (Single t n) ≡ true → pick (group_awaited w t.0) n ≡ Some (record { base = b; wraps = ws })
    → w1 ≡ released w t.0 n → v ≡ given w1 b → w2 ≡ taken w1 b → fs ≡ lost (group_awaited w t.0) n
    → r ≡ record { thread = t.0; value = v; wraps = ws; fired = fs }
    → commit w (Single t n) ≡ Ok (w2, record { head = r; partner = None })
single_returns w t n b ws v fs w1 w2 r has picked one value two lost made =
    let base : base_awaited w t.0 n ≡ b = ap base_or_unit picked in
    let world : w2 ≡ after w (Single t n) = two ∙ ap (λ x. taken x b) one ∙ taken_after w t.0 n b ∙ ap (λ x. released (taken w x) t.0 n) (sym base) in
    let own : v ≡ given w (base_awaited w t.0 n) = value ∙ ap (λ x. given x b) one ∙ given_after w t.0 n b ∙ ap (given w) (sym base) in
    let wraps : ws ≡ wraps_or_none (pick (group_awaited w t.0) n) = sym (ap wraps_or_none picked) in
    let head : r ≡ resume w t.0 n (given w (base_awaited w t.0 n)) = made ∙ rw (own, wraps, lost) refl in
    commit_is w (Single t n) has ∙ rw (world, head) refl

-- the other party waits still, once the head has gone on
pub second_waits : (w : PlainWorld) (es : List PlainEntry) (told : Light → Bool) (room : Room) (h : Tid) (i : ℕ) (o : Tid) (j : ℕ) (a g : PlainGroup) (w1 : PlainWorld)
    → Keeps w es told room → slice_get w.threads h.0 ≡ Some (pending_on a) → slice_get w.threads o.0 ≡ Some (pending_on g) → h.0 ≢ o.0 → j < leaf_count g
    → w1 ≡ released w h.0 i → WaitsOn w1.threads w1.nacks o.0 j (group_awaited w1 o.0)
second_waits w es told room h i o j a g w1 k first second differ within one =
    let waits : slice_get (released w h.0 i).threads o.0 ≡ Some (pending_on g) = get-set_other w.threads h.0 o.0 running differ ∙ second in
    let k1 = keeps_resume w es told room h i a k first in
    let alive : AreLiveNacks (nacks_of (scopes g)) (released w h.0 i).nacks = record {
      each = λ n. let x = nacks-resume n 0 o.0 (released w h.0 i).threads g waits in let y = k1.nacks_live n in
          omega arith;
    } in
    rw (one, waits) (record { waits = waits; within = within; alive = alive })

-- what a book keeps when both parties have gone on
pub keeps_pair : (w : PlainWorld) (es : List PlainEntry) (told : Light → Bool) (room : Room) (h : Tid) (i : ℕ) (o : Tid)
    (j : ℕ) (a g : PlainGroup) (es' : List PlainEntry) (told' : Light → Bool) (w1 w2 : PlainWorld)
    (lit unlit : List Light) (room' : Room)
    → Keeps w es told room → slice_get w.threads h.0 ≡ Some (pending_on a) → slice_get w.threads o.0 ≡ Some (pending_on g) → h.0 ≢ o.0
    → w1 ≡ released w h.0 i → w2 ≡ released w1 o.0 j
    → lit ≡ map nack_light (lost a i) ++ map nack_light (lost g j)
    → unlit ≡ left_lights (bases_awaited (pending w)) (bases a) (bases g) ++ left_lights (bases_awaited (pending w)) (bases g) (bases a)
    → es' ≡ without (h ∷ o ∷ []) es → ((l : Light) → told' l ≡ lit_after lit unlit l (told l)) → room' ≡ room
    → Keeps w2 es' told' room'
keeps_pair w es told room h i o j a g es' told' w1 w2 lit unlit room' k first second differ one two lights dark gone tells size =
    let r1 : PlainWorld = released w h.0 i in
    let r2 : PlainWorld = released r1 o.0 j in
    let all : List PlainBase = bases_awaited (pending w) in
    let out : List Light = left_lights all (bases a) (bases g) ++ left_lights all (bases g) (bases a) in
    let both : w2 ≡ r2 = two ∙ ap (λ x. released x o.0 j) one in
    let waits : slice_get r1.threads o.0 ≡ Some (pending_on g) = get-set_other w.threads h.0 o.0 running differ ∙ second in
    let k1 = keeps_resume w es told room h i a k first in
    let k2 = keeps_resume r1 (without (h ∷ []) es) (λ l. lit_after (map nack_light (lost a i)) [] l (told l)) room o j g k1 waits in
    let counts : (u : ℕ) → times_awaited u all ≡ times_awaited u (bases_awaited (pending r2)) + (times_awaited u (bases a) + times_awaited u (bases g)) =
    λ u. let e = awaited-resume u 0 h.0 w.threads a first in let f = awaited-resume u 0 o.0 r1.threads g waits in omega arith in
    let nacks : lit ≡ map nack_light (lost a i ++ lost g j) = lights ∙ sym (map-append nack_light (lost a i) (lost g j)) in
    let k3 = keeps_dim r2 r2 (without (o ∷ []) (without (h ∷ []) es))
    (λ l. lit_after (map nack_light (lost g j)) [] l (lit_after (map nack_light (lost a i)) [] l (told l)))
    told' room out k2 refl refl
    (λ l. tells l ∙ ap (λ x. lit_after x unlit l (told l)) nacks ∙ ap (λ x. lit_after (map nack_light (lost a i ++ lost g j)) x l (told l)) dark
    ∙ told_dimmed (lost a i ++ lost g j) out (pair_apart all (bases a) (bases g) (bases g) (bases a)) l (told l)
    ∙ ap (λ x. cond (has_light out l) false (lit_after x [] l (told l))) (map-append nack_light (lost a i) (lost g j))
    ∙ ap (cond (has_light out l) false) (lit_more (map nack_light (lost a i)) (map nack_light (lost g j)) l (told l)))
    (right_pair r2 all (bases a) (bases g) counts) in
    rw (both, size) (keeps_same r2 (without (o ∷ []) (without (h ∷ []) es)) told' room es' told' (gone ∙ sym (without_two h o es)) (λ l. refl) k3)

-- the base events with which both parties have gone on meet
pub chosen_meet : (w : PlainWorld) (room : Room) (h : Tid) (i : ℕ) (o : Tid) (j : ℕ) (b d : PlainBase) (ws us : List PlainFunction) (w1 : PlainWorld) → Parties w room h i o j → w1 ≡ released w h.0 i
    → pick (group_awaited w h.0) i ≡ Some (record { base = b; wraps = ws }) → pick (group_awaited w1 o.0) j ≡ Some (record { base = d; wraps = us }) → meets b d ≡ true
chosen_meet w room h i o j b d ws us w1 p one picked1 picked2 =
    let group1 : group_awaited w h.0 ≡ p.head.group = ap awaited p.head.waits in
    let group2 : group_awaited w1 o.0 ≡ p.other.group = ap (λ (x : PlainWorld). group_awaited x o.0) one ∙ ap awaited (get-set_other w.threads h.0 o.0 running p.differ) ∙ ap awaited p.other.waits in
    let base1 : b ≡ p.base = sym (ap base_or_unit picked1) ∙ ap (λ g. base_or_unit (pick g i)) group1 ∙ p.head.base_is in
    let base2 : d ≡ p.other_base = sym (ap base_or_unit picked2) ∙ ap (λ g. base_or_unit (pick g j)) group2 ∙ p.other.base_is in
    rw (base1, base2) p.meet

-- what the call for a pair returns
pub pair_returns : (w : PlainWorld) (h : Tid) (i : ℕ) (o : Tid) (j : ℕ) (b d : PlainBase) (ws us : List PlainFunction) (v u : PlainValue) (fs es : List ℕ) (w1 w2 : PlainWorld) (r q : PlainResume)
    → has_row (scan w) (Pair h i o j) ≡ true → h.0 ≢ o.0 → w1 ≡ released w h.0 i → w2 ≡ released w1 o.0 j
    → pick (group_awaited w h.0) i ≡ Some (record { base = b; wraps = ws }) → fs ≡ lost (group_awaited w h.0) i
    → pick (group_awaited w1 o.0) j ≡ Some (record { base = d; wraps = us }) → es ≡ lost (group_awaited w1 o.0) j
    → u ≡ handed d → v ≡ handed b
    → r ≡ record { thread = h.0; value = u; wraps = ws; fired = fs } → q ≡ record { thread = o.0; value = v; wraps = us; fired = es }
    → commit w (Pair h i o j) ≡ Ok (w2, record { head = r; partner = Some q })
pair_returns w h i o j b d ws us v u fs es w1 w2 r q has differ one two picked1 lost1 picked2 lost2 head_value value made1 made2 =
    let group2 : group_awaited w1 o.0 ≡ group_awaited w o.0 = ap (λ (x : PlainWorld). group_awaited x o.0) one ∙ ap awaited (get-set_other w.threads h.0 o.0 running differ) in
    let own2 = subst (λ x. pick x j ≡ Some (record { base = d; wraps = us })) group2 picked2 in
    let world : w2 ≡ after w (Pair h i o j) = two ∙ ap (λ x. released x o.0 j) one in
    let base : b ≡ base_awaited w h.0 i = sym (ap base_or_unit picked1) in
    let other_base : d ≡ base_awaited w o.0 j = sym (ap base_or_unit own2) in
    let wraps1 : ws ≡ wraps_or_none (pick (group_awaited w h.0) i) = sym (ap wraps_or_none picked1) in
    let wraps2 : us ≡ wraps_or_none (pick (group_awaited w o.0) j) = sym (ap wraps_or_none own2) in
    let head : r ≡ resume w h.0 i (handed (base_awaited w o.0 j)) = made1 ∙ rw (head_value, other_base, wraps1, lost1) refl in
    let partner : q ≡ resume w o.0 j (handed (base_awaited w h.0 i)) = made2 ∙ rw (value, base, wraps2, lost2, group2) refl in
    commit_is w (Pair h i o j) has ∙ rw (world, head, partner) refl

pub told_two : (before pushed more told : List Light) (flat1 flat2 a g : PlainGroup) (i j : ℕ) → before ≡ [] → flat1 ≡ a → flat2 ≡ g → pushed ≡ before ++ map nack_light (lost flat1 i)
    → more ≡ pushed ++ map nack_light (lost flat2 j) → told ≡ more → told ≡ map nack_light (lost a i) ++ map nack_light (lost g j)
told_two before pushed more told flat1 flat2 a g i j none is1 is2 e1 e2 f = f ∙ e2 ∙ rw (e1, none, is1, is2) refl

pub gone_two : (h o : Tid) → (is_among (h ∷ o ∷ []) h.0 ≡ true) × (is_among (h ∷ o ∷ []) o.0 ≡ true)
gone_two h o = two h.0 o.0
  where
    two : (m n : ℕ) → (nat_eq m m || (nat_eq n m || false) ≡ true) × (nat_eq m n || (nat_eq n n || false) ≡ true)
    two m n = (grind (arith, nat_tests), grind (arith, nat_tests))

pub two_differ : (h o : Tid) → h.0 ≢ o.0 → AllPairs (λ a b. a.0 ≢ b.0) (h ∷ o ∷ [])
two_differ h o ne zero (suc zero) d lt small = ne
two_differ h o ne zero zero d lt small = absurd (omega arith)
two_differ h o ne zero (suc (suc j)) d lt small = absurd (omega arith)
two_differ h o ne (suc i) j d lt small = absurd (omega arith)

-- a leaf loses no more nacks than the group has
few : (n : ℕ) (ss : List PlainScope) → length (nacks_of (filter (lies_outside n) ss)) ≤ length ss
few n [] = omega arith
few n (s ∷ ss) = at (lies_outside n s) (few n ss)
  where
    at : (b : Bool) → length (nacks_of (filter (lies_outside n) ss)) ≤ length ss → length (nacks_of (cond b (s ∷ filter (lies_outside n) ss) (filter (lies_outside n) ss))) ≤ suc (length ss)
    at true ih = omega (arith, ih)
    at false ih = omega (arith, ih)

-- so there is room for the lights of two groups
pub room_for_two : (before pushed : List Light) (flat1 flat2 a g : PlainGroup) (i room : ℕ) → before ≡ [] → flat1 ≡ a → flat2 ≡ g → pushed ≡ before ++ map nack_light (lost flat1 i)
    → 2 * length (scopes a) ≤ room → 2 * length (scopes g) ≤ room → length pushed + length (scopes flat2) ≤ room
room_for_two before pushed flat1 flat2 a g i room none is1 is2 e fits1 fits2 =
    let first : pushed ≡ map nack_light (lost a i) = e ∙ ap (λ x. x ++ map nack_light (lost flat1 i)) none ∙ ap (λ x. map nack_light (lost x i)) is1 in
    let size : length pushed ≡ length (lost a i) = ap length first ∙ length-map (lost a i) nack_light in
    let few_lost : length (lost a i) ≤ length (scopes a) = few i (scopes a) in
    rw (is2, size) (omega (arith, few_lost, fits1, fits2))

-- a row that is not in the table is refused
pub row_refused : (w : PlainWorld) (es : List PlainEntry) (told : Light → Bool) (room : Room) (row : Meet) (has : Bool)
    → Keeps w es told room → has ≡ has_row (scan_of es told) row → has ≡ false → commit w row ≡ Err refusal.Row
row_refused w es told room row has k is lacks =
    let none : has_row (scan w) row ≡ false = ap (λ rows. has_row rows row) (sym (scan_is w es told room k)) ∙ sym is ∙ lacks in
    rw none refl

-- the scan has the row exactly where the table has it
pub has_is : (w : PlainWorld) (es : List PlainEntry) (told : Light → Bool) (room : Room) (row : Meet) (has : Bool)
    → Keeps w es told room → has ≡ has_row (scan_of es told) row → has_row (scan w) row ≡ has
has_is w es told room row has k is = ap (λ rows. has_row rows row) (sym (scan_is w es told room k)) ∙ sym is

-- one that is there is in the scan
pub row_there : (w : PlainWorld) (es : List PlainEntry) (told : Light → Bool) (room : Room) (row chosen : Meet)
    (has : Bool) → Keeps w es told room → has ≡ has_row (scan_of es told) row → has ≡ true → row ≡ chosen
    → has_row (scan w) chosen ≡ true
row_there w es told room row chosen has k is holds same =
    ap (has_row (scan w)) (sym same) ∙ ap (λ rows. has_row rows row) (sym (scan_is w es told room k)) ∙ sym is ∙ holds
