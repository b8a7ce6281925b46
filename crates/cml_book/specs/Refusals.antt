-- How replies name a refusal.
use Rattle.std.specs.Prelude.{ℕ, List, codes}
use Rattle.cml_book.specs.declared.refusal.Refusal.{Refusal}
use Rattle.cml_book.specs.declared.refusal.Refusal.TheVariants.{Thread, State, Object, Put, Row, Clock, Leaves, Deep, Far, Full, Nack}

abbrev pub number_of : Refusal → ℕ
number_of Thread = 1
number_of State = 2
number_of Object = 3
number_of Put = 4
number_of Row = 5
number_of Clock = 6
number_of Leaves = 7
number_of Deep = 8
number_of Far = 9
number_of Full = 10
number_of Nack = 11

abbrev pub name_of : Refusal → List ℕ
name_of Thread = codes "thread"
name_of State = codes "state"
name_of Object = codes "object"
name_of Put = codes "put"
name_of Row = codes "row"
name_of Clock = codes "clock"
name_of Leaves = codes "leaves"
name_of Deep = codes "deep"
name_of Far = codes "far"
name_of Full = codes "full"
name_of Nack = codes "nack"
