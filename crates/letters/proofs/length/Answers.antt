use Rattle.letters.proofs.Places.{no_length}
use Rattle.letters.proofs.length.Goals as goal

pub returns-in_default : goal.returns-in_default
returns-in_default c = no_length _ c.in_default.in_default-own.rest
