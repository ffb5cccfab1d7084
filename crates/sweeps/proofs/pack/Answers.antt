-- `pack` is the rules' packing.
use Rattle.sweeps.proofs.PackLaws.{pack_size, pack_counter, pack_made}
use Rattle.sweeps.proofs.pack.Goals as goal

pub div_ceil-used-requires : goal.div_ceil-used-requires
div_ceil-used-requires c = pack_size c.requires c.take_all-emptied.ensures c.at.ensures c.s.ensures

pub put_counter-requires : goal.put_counter-requires
put_counter-requires c = pack_counter c.requires c.take_all-emptied.ensures c.lay_out.ensures

pub returns : goal.returns
returns c = pack_made c.requires c.take_all-emptied.ensures c.lay_out.ensures c.at.ensures c.s.ensures (rw (← c.div_ceil-used.ensures) c.put_counter.ensures)
