-- The threads that are out become ready, one after another.
use Rattle.std.proofs.Common.{◌≡◌, ◌⊎◌, inl, inr, ℕ, zero, suc, ◌+◌, ◌≤◌, false, List, [], ◌∷◌, ◌++◌, length, map, take, take_all, refl, ap, sym, ◌∙◌, arith, Some, add-one, append_assoc}
use Rattle.std.proofs.lemmas.List.{length-map}
use Rattle.std.specs.Prelude.{slice_get, slice_set}
use Rattle.cml_value.specs.declared.number.Tid.{Tid}
use Rattle.cml_hub.specs.declared.ready_queue.Mark.{Mark}
use Rattle.cml_hub.specs.declared.ready_queue.Mark.TheVariants.{Ready, Out, NotRunning}
use Rattle.cml_hub.specs.ReadyQueue.{home, is_out, is_at, count_of, ready_at, count_outs, those_out, AreMarks}
use Rattle.cml_hub.proofs.MarkLemmas.{count_append, ready_set, outs_set}
use Rattle.cml_hub.proofs.Queueing.{those_out_more, those_same}

-- of the first ones, this many, those that were out are ready
abbrev pub home_upto : ℕ → List Mark → List Mark
home_upto zero ms = ms
home_upto (suc n) [] = []
home_upto (suc n) (m ∷ ms) = home m ∷ home_upto n ms

length_upto : (n : ℕ) (ms : List Mark) → length (home_upto n ms) ≡ length ms
length_upto zero ms = refl
length_upto (suc n) [] = refl
length_upto (suc n) (m ∷ ms) = ap suc (length_upto n ms)

upto_all : (ms : List Mark) → home_upto (length ms) ms ≡ map home ms
upto_all [] = refl
upto_all (m ∷ ms) = ap (λ xs. home m ∷ xs) (upto_all ms)

upto_out : (n : ℕ) (ms : List Mark) → slice_get (home_upto n ms) n ≡ Some Out → home_upto (suc n) ms ≡ slice_set (home_upto n ms) n Ready
upto_out zero [] h = refl
upto_out zero (m ∷ ms) h = let e : m ≡ Out = cc in rw e refl
upto_out (suc n) [] h = refl
upto_out (suc n) (m ∷ ms) h = ap (λ xs. home m ∷ xs) (upto_out n ms h)

upto_here : (n : ℕ) (ms : List Mark) (m : Mark) → slice_get (home_upto n ms) n ≡ Some m → home m ≡ m → home_upto (suc n) ms ≡ home_upto n ms
upto_here zero [] x h e = refl
upto_here zero (m ∷ ms) x h e = let g : m ≡ x = cc in ap (λ y. y ∷ ms) (ap home g ∙ e ∙ sym g)
upto_here (suc n) [] x h e = refl
upto_here (suc n) (m ∷ ms) x h e = ap (λ xs. home m ∷ xs) (upto_here n ms x h e)

-- one that was not looked at yet is as it was
upto_at : (n : ℕ) (ms : List Mark) → slice_get (home_upto n ms) n ≡ slice_get ms n
upto_at zero ms = refl
upto_at (suc n) [] = refl
upto_at (suc n) (m ∷ ms) = upto_at n ms

-- one that is where it was is not out
not_out : (m : Mark) → home m ≡ m → is_out m ≡ false
not_out Ready e = refl
not_out Out e = cc
not_out NotRunning e = refl

none_out : (ms : List Mark) → count_outs (map home ms) ≡ 0
none_out [] = refl
none_out (Ready ∷ ms) = omega (arith, none_out ms)
none_out (Out ∷ ms) = omega (arith, none_out ms)
none_out (NotRunning ∷ ms) = omega (arith, none_out ms)

pub none_those : (k : ℕ) (ms : List Mark) → count_outs ms ≡ 0 → those_out k (map is_out ms) ≡ []
none_those k [] h = refl
none_those k (Ready ∷ ms) h = none_those (suc k) ms (omega (arith, h))
none_those k (Out ∷ ms) h = absurd (omega (arith, h))
none_those k (NotRunning ∷ ms) h = none_those (suc k) ms (omega (arith, h))

-- where none is out nothing changes
pub all_here : (ms : List Mark) → count_outs ms ≡ 0 → map home ms ≡ ms
all_here [] h = refl
all_here (Ready ∷ ms) h = ap (λ xs. Ready ∷ xs) (all_here ms (omega (arith, h)))
all_here (Out ∷ ms) h = absurd (omega (arith, h))
all_here (NotRunning ∷ ms) h = ap (λ xs. NotRunning ∷ xs) (all_here ms (omega (arith, h)))

-- so far: of the first ones, this many, none is out, those that were come last in the queue; those that are ready stand in it, and there is room
-- for those that are out
pub record Homing (first : List Tid) (old : List Mark) (n : ℕ) (queue : List Tid) (ms : List Mark) (room : ℕ) : Type 0 where
  pub so_far : ms ≡ home_upto n old
  pub ordered : queue ≡ first ++ those_out 0 (map is_out (take n old))
  pub queued : (t : ℕ) → count_of t queue ≡ ready_at ms t
  pub room_left : count_outs ms ≤ room

pub homing_length : (first : List Tid) (old : List Mark) (n : ℕ) (queue : List Tid) (ms : List Mark) (room : ℕ) → Homing first old n queue ms room → length ms ≡ length old
homing_length first old n queue ms room h = ap length h.so_far ∙ length_upto n old

-- one that was out
pub homing_out : (first : List Tid) (old : List Mark) (n : ℕ) (queue : List Tid) (ms : List Mark) (room new : ℕ)
    (t : Tid) → Homing first old n queue ms room → slice_get ms n ≡ Some Out → t.0 ≡ n → room ≡ new + 1
    → Homing first old (n + 1) (queue ++ t ∷ []) (slice_set ms n Ready) new
homing_out first old n queue ms room new t h got is less = record {
  ordered = rw add-one
      (let so : slice_get (home_upto n old) n ≡ Some Out = rw (h.so_far) at got in
      let more = those_out_more 0 n old (sym (upto_at n old) ∙ so) in
      let at : t.0 ≡ 0 + n = omega (arith, is) in
      let same : t ≡ record { 0 = 0 + n } = ap (λ (k : ℕ). record { 0 = k }) at in
      let pushed = ap (λ xs. xs ++ t ∷ []) h.ordered ∙ append_assoc first (those_out 0 (map is_out (take n old))) (t ∷ []) in
      pushed ∙ ap (λ xs. first ++ xs) (ap (λ x. those_out 0 (map is_out (take n old)) ++ x ∷ []) same ∙ sym more));
  so_far = rw add-one (let so : slice_get (home_upto n old) n ≡ Some Out = rw (h.so_far) at got in rw (h.so_far) (sym (upto_out n old so)));
  queued = λ u. omega (arith, count_append u queue (t ∷ []), ready_set ms n u Out Ready got, h.queued u, ap (is_at u) is);
  room_left = omega (arith, h.room_left, outs_set ms n Out Ready got);
}

-- one that was not
pub homing_here : (first : List Tid) (old : List Mark) (n : ℕ) (queue : List Tid) (ms : List Mark) (room : ℕ) (m : Mark)
    → Homing first old n queue ms room → slice_get ms n ≡ Some m → home m ≡ m → Homing first old (n + 1) queue ms room
homing_here first old n queue ms room m h got is = record {
  ordered = rw add-one
      (let so : slice_get (home_upto n old) n ≡ Some m = rw (h.so_far) at got in
      h.ordered ∙ ap (λ xs. first ++ xs) (sym (those_same 0 n old m (sym (upto_at n old) ∙ so) (not_out m is))));
  so_far = rw add-one (let so : slice_get (home_upto n old) n ≡ Some m = rw (h.so_far) at got in h.so_far ∙ sym (upto_here n old m so is));
  queued = h.queued;
  room_left = h.room_left;
}

pub home_here : (m : Mark) → (m ≡ Ready) ⊎ (m ≡ NotRunning) → home m ≡ m
home_here m (inl e) = rw e refl
home_here m (inr e) = rw e refl

-- all of them
pub homing_done : (first : List Tid) (old : List Mark) (n : ℕ) (queue : List Tid) (ms : List Mark) (room : ℕ) → Homing first old n queue ms room → n ≡ length old → ms ≡ map home old
homing_done first old n queue ms room h e = h.so_far ∙ ap (λ k. home_upto k old) e ∙ upto_all old

pub homing_order : (first : List Tid) (old : List Mark) (n : ℕ) (queue : List Tid) (ms : List Mark) (room : ℕ)
    → Homing first old n queue ms room → n ≡ length old → queue ≡ first ++ those_out 0 (map is_out old)
homing_order first old n queue ms room h e = h.ordered ∙ ap (λ xs. first ++ those_out 0 (map is_out xs)) (take_all n old (omega (arith, e)))

pub marks_home : (queue new : List Tid) (old ms : List Mark) (o : ℕ) → AreMarks queue old o → ms ≡ map home old → ((t : ℕ) → count_of t new ≡ ready_at ms t) → AreMarks new ms 0
marks_home queue new old ms o h is queued = record {
  queued = queued;
  counted = sym (ap count_outs is ∙ none_out old);
  few = omega (arith, h.few, ap length is, length-map old home);
}
