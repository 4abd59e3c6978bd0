-- The weight of a prefix as the program reports it.
use Rattle.std.specs.Prelude.{ℕ, ◌≡◌, List, Option, ◌++◌, codes, decimal}
use Rattle.prefix_lattice.specs.{RecordValue, PrefixValue, total_weight}
use Rattle.prefix_lattice.specs.declared.grain.Grain.TheVariants.{Byte}
use Rattle.shard_state.specs.{HoldsNarrowlyOver, TableShape, interval_over}
use Rattle.pcap_frames.specs.{FrameValue}
use Rattle.frame_records.specs.{FileGives, records_of}
use Rattle.command_words.specs.declared.settings.Settings.{Settings}

-- the shape of the table that weighs a prefix, which is of whole bytes
abbrev pub text_shape : TableShape
text_shape = record { grain = Byte; capacity = 64 }

-- three lines: the least and the greatest weight of the prefix, and the weight of all records
abbrev pub weight_text : ℕ → ℕ → ℕ → List ℕ
weight_text low high total =
    codes "low " ++ decimal low ++ codes "\nhigh " ++ decimal high ++ codes "\ntotal " ++ decimal total
    ++ codes "\n"

-- what is written for a prefix and some records
abbrev pub text_for : PrefixValue → List RecordValue → List ℕ
text_for prefix records =
    let interval = interval_over text_shape prefix records in
    weight_text interval.low interval.high (total_weight records)

-- the text that reports the weight of a prefix over the records of a capture; the interval holds the exact weight
pub record IsWeightText (prefix : PrefixValue) (settings : Settings) (file text : List ℕ) : Type 0 where
  pub frames : List FrameValue
  pub cut : Option ℕ
  pub capture : FileGives settings.front file frames cut
  pub spelled : text ≡ text_for prefix (records_of settings.weigh frames)
  pub holds : HoldsNarrowlyOver text_shape prefix (records_of settings.weigh frames)
