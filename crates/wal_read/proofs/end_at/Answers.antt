-- An entry that is no update, of an end. Assumes nothing.
use Rattle.std.proofs.Common.{refl}
use Rattle.wal.specs.Reader.{ended}
use Rattle.wal_read.proofs.Answered.{bare_end}
use Rattle.wal_read.proofs.end_at.Goals as goal

pub returns : goal.returns
returns c = bare_end c.args.at c.bare.result ended refl c.bare.ensures
