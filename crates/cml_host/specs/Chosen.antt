-- The rules of the choosers that come with a seed or with none.
use Rattle.std.specs.Prelude.{◌%◌}
use Rattle.rand_pcg.specs.Lcg.{Lcg}
use Rattle.rand_pcg.specs.Pcg.{pcg32}
use Rattle.cml_hub.specs.Playing.{Rules}

-- always the first
abbrev pub by_first : {C : Type 0} → Rules C
by_first = record { picks = λ chooser count. 0; next = λ chooser. chooser }

-- the words of the generator, one after another, each modulo the count
abbrev pub by_words : Rules Lcg
by_words = record { picks = λ state count. (pcg32 state).0 % count; next = λ state. (pcg32 state).1 }
