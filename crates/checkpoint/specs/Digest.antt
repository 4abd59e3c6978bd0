-- The digest of dealt records, which ties a store to the records whose cuts it has.
use Rattle.std.specs.Prelude.{ℕ, List, ◌++◌, length}
use Rattle.std.specs.List.{flat_map}
use Rattle.sha2.specs.Sha256.{sha256}
use Rattle.prefix_lattice.specs.{RecordValue}
use Rattle.checkpoint.specs.declared.header.StoreHeader.{StoreHeader}
use Rattle.checkpoint.specs.Numbers.{number_bytes}
use Rattle.checkpoint.specs.Header.{header_bytes}

-- a record: its source, its destination and its weight, in 4 bytes each
abbrev pub record_bytes : RecordValue → List ℕ
record_bytes rec = number_bytes 4 rec.src ++ (number_bytes 4 rec.dst ++ number_bytes 4 rec.weight)

-- the records of a shard: how many, in 4 bytes, and the records in their order
abbrev pub list_bytes : List RecordValue → List ℕ
list_bytes list = number_bytes 4 (length list) ++ flat_map record_bytes list

-- the text whose digest it is: the bytes of the store's header, and the dealt lists in the order of the shards
abbrev pub digested : List ℕ → List (List RecordValue) → List ℕ
digested header lists = header ++ flat_map list_bytes lists

-- the digest of dealt lists under the bytes of a header: SHA-256 (FIPS 180-4) of that text
unfoldable pub header_digest : List ℕ → List (List RecordValue) → List ℕ
header_digest header lists = sha256 (digested header lists)

-- the digest of dealt lists under a header
abbrev pub lists_digest : StoreHeader → List (List RecordValue) → List ℕ
lists_digest header lists = header_digest (header_bytes header) lists
