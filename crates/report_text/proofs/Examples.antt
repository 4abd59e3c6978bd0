-- Worked examples of the texts, most by computing.
use Rattle.std.proofs.Common.{◌≡◌, ℕ, ◌^◌, ◌<◌, ◌≤◌, [], ◌∷◌, codes, refl, arith}
use Rattle.std.proofs.Common.{◌-◌, ◌%◌, length, decimal, Some, None}
use Rattle.std.proofs.Math.ListN.{replicate}
use Rattle.std.proofs.lemmas.List.Elements.{All-nil, All-cons, All-from_recursion}
use Rattle.std.specs.Fmt.{digits}
use Rattle.prefix_lattice.specs.{IsPrefix, address_bits, finest_grain, grain_bits}
use Rattle.prefix_lattice.specs.declared.grain.Grain.{Grain}
use Rattle.prefix_lattice.specs.declared.grain.Grain.TheVariants.{Byte, Nibble}
use Rattle.prefix_lattice.proofs.Examples.{front, leading_bits_of_an_address}
use Rattle.frame_records.specs.declared.records.Records.{Records}
use Rattle.hhh_report.specs.declared.line.Line.{Line}
use Rattle.hhh_report.specs.declared.report.Report.{Report}
use Rattle.report_text.specs.declared.mark.Mark.TheVariants.{Opened, Saved}
use Rattle.report_text.specs.Printing.{ShowsPositions, ShowsLine, Shows}
use Rattle.report_text.specs.Printing.{text_line, number_text}
use Rattle.report_text.specs.Printing.{positions_text}
use Rattle.report_text.specs.Printing.{mark_name_text, line_text, lines_text, mark_text}
use Rattle.report_text.specs.Printing.{report_text, tail_text}
use Rattle.report_text.specs.Printing.{number_length, line_length, cut_length, cut_text}
use Rattle.report_text.proofs.ShortListLemmas.{short_list_of_one_line}

-- 100 bytes from 10.1.2.3 to 20.1.2.3
abbrev line : Line
line = record { prefix = record { source = address_bits 0x0a010203; dest = address_bits 0x14010203 }; lo = 100; hi = 100 }

-- 60 to 100 bytes from 10.0.0.0/8
abbrev wide : Line
wide = record { prefix = record { source = front 0x0a000000 8; dest = [] }; lo = 60; hi = 100 }

pub text_of_a_line : line_text line ≡ codes "line 10.1.2.3/32 20.1.2.3/32 100 100\n"
unfolding digits
text_of_a_line = refl

-- the greatest number of 64 bits
pub longest_number_of_64_bits : length (decimal (2 ^ 64 - 1)) ≡ number_length
unfolding digits
longest_number_of_64_bits = refl

-- the line of the widest prefix with the greatest numbers
pub longest_line_of_a_report :
    length (line_text (record {
      prefix = record { source = address_bits 0xffffffff; dest = address_bits 0xffffffff };
      lo = 2 ^ 64 - 1;
      hi = 2 ^ 64 - 1;
    }))
    ≡ line_length
unfolding digits
longest_line_of_a_report = refl

pub text_of_zero : number_text (codes "total") 0 ≡ codes "total 0\n"
unfolding digits
text_of_zero = refl

pub text_of_a_word : text_line (codes "done" ∷ []) ≡ codes "done\n"
text_of_a_word = refl

pub text_of_two_positions : positions_text (codes "at") (6 ∷ 5 ∷ []) ≡ codes "at 6 5\n"
unfolding digits
text_of_two_positions = refl

pub word_of_opened_positions : mark_name_text Opened ≡ codes "opened"
word_of_opened_positions = refl

pub word_of_saved_positions : mark_name_text Saved ≡ codes "saved"
word_of_saved_positions = refl

pub positions_of_three_shards : ShowsPositions (0 ∷ 7 ∷ 16777216 ∷ [])
positions_of_three_shards = record {
  some = omega arith;
  few = omega arith;
  within =
      All-from_recursion (λ (position : ℕ). position ≤ 16777216) (0 ∷ 7 ∷ 16777216 ∷ [])
      (omega arith, (omega arith, (omega arith, tt)));
}

pub no_position_is_past_the_frames_of_a_capture : ¬ ShowsPositions (16777217 ∷ [])
no_position_is_past_the_frames_of_a_capture are =
    let most : 16777217 ≤ 16777216 = are.within 0 0 (omega arith) in omega (arith, most)

pub no_shard_is_none : ¬ ShowsPositions []
no_shard_is_none are = omega (arith, are.some)

pub seventeen_shards_are_too_many : ¬ ShowsPositions (replicate 17 0)
seventeen_shards_are_too_many are = let most : 17 ≤ 16 = are.few in omega (arith, most)

pub text_of_opened_shards : mark_text Opened (0 ∷ 7 ∷ 16777216 ∷ []) ≡ codes "opened 0 7 16777216\n"
unfolding digits
text_of_opened_shards = refl

pub text_of_a_saved_shard : mark_text Saved (1 ∷ []) ≡ codes "saved 1\n"
unfolding digits
text_of_a_saved_shard = refl

pub text_of_two_lines : lines_text (line ∷ wide ∷ [])
    ≡ codes "line 10.1.2.3/32 20.1.2.3/32 100 100\nline 10.0.0.0/8 0.0.0.0/0 60 100\n"
unfolding digits
text_of_two_lines = refl

-- what is reported of one record of one shard, where every prefix that carries weight is heavy
abbrev pub report : Report
report = record {
  positions = 1 ∷ [];
  total = 100;
  threshold = 1;
  lines = line ∷ [];
  are_lines = short_list_of_one_line line (omega arith);
}

pub text_of_a_report : report_text report
    ≡ codes "report\nat 1\ntotal 100\nthreshold 1\nline 10.1.2.3/32 20.1.2.3/32 100 100\ndone\n"
unfolding digits
text_of_a_report = refl

line_names_a_prefix : (grain : Grain) → 32 % grain_bits grain ≡ 0 → IsPrefix grain line.prefix
line_names_a_prefix grain whole = record {
  source = leading_bits_of_an_address 0x0a010203 32 (omega arith);
  dest = leading_bits_of_an_address 0x14010203 32 (omega arith);
  source_steps = whole;
  dest_steps = whole;
}

pub line_of_a_prefix_and_two_numbers : ShowsLine Byte line
line_of_a_prefix_and_two_numbers =
    record { is_prefix = line_names_a_prefix Byte refl; low = omega arith; high = omega arith }

-- an address of 33 bits
pub line_of_no_prefix : ¬ ShowsLine Nibble
    (record line { prefix = record { source = 0 ∷ address_bits 0x0a010203; dest = [] } })
line_of_no_prefix told = let few : 33 ≤ 32 = told.is_prefix.source.few in omega (arith, few)

-- a line of half a byte, which is none by bytes
abbrev pub half : Line
half = record { prefix = record { source = front 0x0a100000 12; dest = [] }; lo = 60; hi = 100 }

pub text_of_half_a_byte : line_text half ≡ codes "line 10.16.0.0/12 0.0.0.0/0 60 100\n"
unfolding digits
text_of_half_a_byte = refl

pub line_of_half_a_byte : ShowsLine Nibble half
line_of_half_a_byte = record {
  is_prefix = record {
    source = leading_bits_of_an_address 0x0a100000 12 (omega arith);
    dest = leading_bits_of_an_address 0 0 (omega arith);
    source_steps = refl;
    dest_steps = refl;
  };
  low = omega arith;
  high = omega arith;
}

pub no_line_by_bytes : ¬ ShowsLine Byte half
no_line_by_bytes told = let whole : 4 ≡ 0 = told.is_prefix.source_steps in omega (arith, whole)

pub line_of_a_number_that_is_too_great : ¬ ShowsLine Byte (record line { hi = 2 ^ 64 })
line_of_a_number_that_is_too_great told = omega (arith, told.high)

pub report_that_can_be_told : Shows report
report_that_can_be_told = record {
  positions =
      All-cons (λ (position : ℕ). position < 2 ^ 64) 1 [] (omega arith)
      (All-nil (λ (position : ℕ). position < 2 ^ 64));
  total = omega arith;
  threshold = omega arith;
  lines =
      All-cons (ShowsLine finest_grain) line []
      (record { is_prefix = line_names_a_prefix finest_grain refl; low = omega arith; high = omega arith })
      (All-nil (ShowsLine finest_grain));
}

pub report_of_a_total_that_is_too_great : ¬ Shows (record report { total = 2 ^ 64 })
report_of_a_total_that_is_too_great tellable = omega (arith, tellable.total)

-- seven frames, of which one was too short and two weren't IPv4
abbrev records : Records
records = record { list = []; frames = 7; not_ipv4 = 2; short = 1; bad_header = 0; cut = None }

pub text_of_a_tail : tail_text records ≡ codes "frames 7\nskipped 2 1 0\nend\n"
unfolding digits
text_of_a_tail = refl

-- those of a capture whose eighth frame is cut
pub text_of_a_cut_tail : tail_text (record records { cut = Some 500 }) ≡ codes "frames 7\nskipped 2 1 0\ncut 500\nend\n"
unfolding digits
text_of_a_cut_tail = refl

-- the greatest place of a frame that is cut
pub longest_line_of_a_cut : length (cut_text (Some (2 ^ 64 - 1))) ≡ cut_length
unfolding digits
longest_line_of_a_cut = refl
