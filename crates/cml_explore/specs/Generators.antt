-- How a generator picks.
use Rattle.std.specs.Prelude.{◌%◌}
use Rattle.rand_pcg.specs.Lcg.{Lcg}
use Rattle.rand_pcg.specs.Pcg.{pcg32}
use Rattle.cml_hub.specs.Playing.{Rules}

-- by its words, one after another, each modulo the count of things
abbrev pub by_generator : Rules Lcg
by_generator = record { picks = λ state count. (pcg32 state).0 % count; next = λ state. (pcg32 state).1 }
