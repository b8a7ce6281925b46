-- The text that a value is printed as.
use Rattle.std.specs.Prelude.{ℕ, Bool, true, false, ◌==◌, if◌then◌else◌, List, [], ◌∷◌, ◌++◌, codes}
use Rattle.std.specs.List.{flat_map}
use Rattle.std.specs.Fmt.{decimal, signed_decimal}
use Rattle.cml_value.specs.Value.{PlainValue, unit, int, truth, text, pair, thread, chan, swapchan, ivar, mvar, mailbox, mchan, port, event}

-- a quote (34), a backslash (92) and a line feed (10) are written with a backslash before them, the last one as the letter n;
-- every other byte is written as it is
abbrev pub escaped_byte : ℕ → List ℕ
escaped_byte b = if b == 34 then 92 ∷ 34 ∷ [] else (if b == 92 then 92 ∷ 92 ∷ [] else (if b == 10 then 92 ∷ 110 ∷ [] else b ∷ []))

abbrev pub escaped_text : List ℕ → List ℕ
escaped_text bytes = flat_map escaped_byte bytes

-- a text as a literal, between quotes
abbrev pub shown_text : List ℕ → List ℕ
shown_text bytes = 34 ∷ escaped_text bytes ++ 34 ∷ []

abbrev pub shown_truth : Bool → List ℕ
shown_truth true = codes "true"
shown_truth false = codes "false"

-- a thread or an object: its kind and its number
abbrev pub shown_number : List ℕ → ℕ → List ℕ
shown_number kind n = codes "(" ++ kind ++ codes " " ++ decimal n ++ codes ")"

-- a number is written in decimal, with a minus sign where it is negative, a pair with both its parts, and an event as the
-- word `event` alone, whatever is in it
abbrev pub shown : PlainValue → List ℕ
shown unit = codes "()"
shown (int z) = signed_decimal z
shown (truth b) = shown_truth b
shown (text bytes) = shown_text bytes
shown (pair a b) = codes "(pair " ++ shown a ++ codes " " ++ shown b ++ codes ")"
shown (thread n) = shown_number (codes "thread") n
shown (chan n) = shown_number (codes "chan") n
shown (swapchan n) = shown_number (codes "swapchan") n
shown (ivar n) = shown_number (codes "ivar") n
shown (mvar n) = shown_number (codes "mvar") n
shown (mailbox n) = shown_number (codes "mailbox") n
shown (mchan n) = shown_number (codes "mchan") n
shown (port n) = shown_number (codes "port") n
shown (event e) = codes "event"
