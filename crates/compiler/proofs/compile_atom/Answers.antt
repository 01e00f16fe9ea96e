use Rattle.compiler.proofs.Compiling.{ready_room, place_fits, atom_laid}
use borrow.Author.Rules.{rules}
use Rattle.compiler.proofs.compile_atom.Goals as goal

pub put-requires : goal.put-requires
put-requires c = search (rules, ready_room, place_fits)

pub returns : goal.returns
returns c = search (rules, atom_laid)
