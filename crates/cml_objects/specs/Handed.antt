-- What a side hands to the one that it meets.
use Rattle.cml_value.specs.Value.{PlainValue, unit, PlainBase, always, send, recv, swap, iget, mtake, mget, mswap, mail_recv, port_recv, join, at_tick, after_ticks, nack}

-- A send and a swap hand over their value, a receive unit (Reppy's sendEvt and recvEvt). Any other base event meets nobody; its unit is
-- never handed over.
abbrev pub handed : PlainBase → PlainValue
handed (send c v) = v
handed (recv c) = unit
handed (swap s v) = v
handed (always v) = unit
handed (iget i) = unit
handed (mtake m) = unit
handed (mget m) = unit
handed (mswap m v) = unit
handed (mail_recv b) = unit
handed (port_recv p) = unit
handed (join t) = unit
handed (at_tick t) = unit
handed (after_ticks d) = unit
handed (nack k) = unit
