-- Where each thread of a hub is, and the queue of those that are ready.
use Rattle.std.specs.Prelude.{ℕ, zero, suc, ◌≡◌, ◌+◌, ◌^◌, ◌≤◌, ◌==◌, Bool, true, false, if◌then◌else◌, List, [], ◌∷◌, length}
use Rattle.cml_value.specs.declared.number.Tid.{Tid}
use Rattle.cml_hub.specs.declared.ready_queue.Mark.{Mark}
use Rattle.cml_hub.specs.declared.ready_queue.Mark.TheVariants as mark

-- for each thread where it is; the threads that are ready, the one that comes next first; for how many more there is room in the queue; and for
-- how many more threads there is room
pub record PlainMarks : Type 0 where
  pub marks : List Mark
  pub queue : List Tid
  pub room : ℕ
  pub more : ℕ

-- the thread runs: it is ready, or out
abbrev pub is_here : Mark → Bool
is_here mark.Ready = true
is_here mark.Out = true
is_here mark.NotRunning = false

abbrev pub is_out : Mark → Bool
is_out mark.Ready = false
is_out mark.Out = true
is_out mark.NotRunning = false

-- a thread that was out is ready; any other is where it was
abbrev pub home : Mark → Mark
home mark.Out = mark.Ready
home m = m

-- the queue, once the thread has left its first place in it
abbrev pub left_by : ℕ → List Tid → List Tid
left_by t [] = []
left_by t (x ∷ xs) = if x.0 == t then xs else x ∷ left_by t xs

-- those of these threads, of which the first has this number, whose slices are out, in the order of their numbers
abbrev pub those_out : ℕ → List Bool → List Tid
those_out n [] = []
those_out n (true ∷ out) = record { 0 = n } ∷ those_out (suc n) out
those_out n (false ∷ out) = those_out (suc n) out

-- 1 where the two numbers are the same, else 0
abbrev pub is_at : ℕ → ℕ → ℕ
is_at zero zero = 1
is_at zero (suc n) = 0
is_at (suc t) zero = 0
is_at (suc t) (suc n) = is_at t n

-- how often the thread stands in the queue
abbrev pub count_of : ℕ → List Tid → ℕ
count_of t [] = 0
count_of t (x ∷ xs) = is_at t x.0 + count_of t xs

-- 1 where the thread is ready, else 0; below, the same where it is out
abbrev pub readies : Mark → ℕ
readies mark.Ready = 1
readies m = 0

abbrev pub outs : Mark → ℕ
outs mark.Out = 1
outs m = 0

-- 1 where the thread is ready
abbrev pub ready_at : List Mark → ℕ → ℕ
ready_at [] t = 0
ready_at (m ∷ ms) zero = readies m
ready_at (m ∷ ms) (suc t) = ready_at ms t

-- how many are out
abbrev pub count_outs : List Mark → ℕ
count_outs [] = 0
count_outs (m ∷ ms) = outs m + count_outs ms

-- exactly those that are ready stand in the queue, once each; those that are out are counted; and each thread has a number
pub record AreMarks (queue : List Tid) (marks : List Mark) (out : ℕ) : Type 0 where
  pub queued : (t : ℕ) → count_of t queue ≡ ready_at marks t
  pub counted : out ≡ count_outs marks
  pub few : length marks ≤ 2 ^ 32
