-- The number by which a state is looked up.
use Rattle.std.specs.Prelude.{ℕ, ◌*◌, ◌%◌, ◌^◌, bit_xor, List, Option, Some, None, fold, reverse, if◌then◌else◌}
use Rattle.std.specs.Int.{w64, rotate_left, cast_unsigned}
use Rattle.cml_value.specs.Value.{PlainValue, unit, int, truth, pair, thread}
use Rattle.cml_scan.specs.World.{PlainThread, running, pending_on, ended, PlainWorld}
use Rattle.cml_step.specs.Machines.{PlainHeld, call, force, wraps, PlainMachine}

-- the digest so far, with one number more
unfoldable pub mix : ℕ → ℕ → ℕ
mix digest number = rotate_left w64 (bit_xor digest number * 0x100_0000_01b3 % 2 ^ 64) 23

-- with a value: numbers and truth values by what they are, of others the kind alone
abbrev pub value_mixed : ℕ → PlainValue → ℕ
value_mixed digest (int number) = mix digest (cast_unsigned w64 number)
value_mixed digest (truth b) = mix digest (if b then 4 else 3)
value_mixed digest unit = mix digest 2
value_mixed digest (pair v w) = mix digest 5
value_mixed digest (thread t) = mix (mix digest 6) t
value_mixed digest _ = mix digest 1

abbrev pub variable_mixed : ℕ → Option PlainValue → ℕ
variable_mixed digest (Some v) = value_mixed digest v
variable_mixed digest None = mix digest 10

abbrev pub thread_mixed : ℕ → PlainThread → ℕ
thread_mixed digest running = mix digest 11
thread_mixed digest (pending_on g) = mix digest 12
thread_mixed digest ended = mix digest 13

abbrev pub queue_mixed : ℕ → List PlainValue → ℕ
queue_mixed digest vs = fold value_mixed (mix digest 14) vs

abbrev pub entry_mixed : ℕ → PlainHeld → ℕ
entry_mixed digest (call f at slots w) = fold value_mixed (mix (mix digest f) at) slots
entry_mixed digest (force e asked) = mix digest (if asked then 8 else 7)
entry_mixed digest (wraps fs v) = mix digest 9

-- the entries of a stack, from the top
unfoldable pub stack_mixed : ℕ → List PlainHeld → ℕ
stack_mixed digest hs = fold entry_mixed digest (reverse hs)

-- with what is seen of an output
abbrev pub printed_mixed : ℕ → Option (List ℕ) → ℕ
printed_mixed digest None = digest
printed_mixed digest (Some bytes) = fold mix (mix digest 15) bytes

-- the digest of a world and of the machines in it
unfoldable pub digest_at : PlainWorld → List PlainMachine → ℕ
digest_at w machines =
    let threads = fold thread_mixed (mix w.tick w.channels) w.threads in
    let variables = fold variable_mixed (fold variable_mixed threads w.ivars) w.mvars in
    fold (λ digest m. stack_mixed digest m.stack) (fold queue_mixed (fold queue_mixed variables w.mailboxes) w.ports) machines
