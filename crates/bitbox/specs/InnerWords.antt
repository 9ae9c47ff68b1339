-- An entry of the reader in the words of an export, field by field. Assumes nothing.
use Rattle.std.specs.Prelude.{◌≡◌}
use Rattle.wal_read.specs.Entry.{what_said}
use Rattle.wal_read.specs.declared.WalEntry.{WalEntry}
use Rattle.bitbox.specs.Words.{entry_refusal, entry_kind, entry_bucket}
use Rattle.bitbox.specs.declared.Entry.{Entry}

pub record Worded (e : WalEntry) (r : Entry) : Type 0 where
  pub refusal_is : r.refusal ≡ entry_refusal (what_said e.what)
  pub kind_is : r.kind ≡ entry_kind (what_said e.what)
  pub bucket_is : r.bucket ≡ entry_bucket (what_said e.what)
  pub next_is : r.next ≡ e.next
  pub id_is : r.id ≡ e.id
  pub diff_is : r.diff.words ≡ e.diff.words
  pub packed_is : r.packed ≡ e.packed
  pub elided_is : r.elided ≡ e.elided
