use Rattle.layout.proofs.Books.{laid}
use Rattle.layout.proofs.book.lay.Goals as goal

pub returns-clause-laid : goal.returns-clause-laid
returns-clause-laid c = laid _ _ _ _ _ _ _ _ _ _ _ _ c.requires _ _ c.state_bits-state.ensures c.slot_bits-vars.ensures _ c.monitor_bits.ensures _ _ _ _ c.place_slots.ensures c.arrange.ensures.arranged c.encoding_of.ensures
