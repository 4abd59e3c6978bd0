-- What `clap` found for SRC and DST are the two sides that the words give.
use Rattle.std.proofs.lemmas.Result.{err_from_is_err_and}
use Rattle.command_words.specs.declared.command_word.CommandWord.TheVariants.{Weigh}
use Rattle.command_words.proofs.MatchLemmas.{matches_tell_sides, match_told_is_found, matches_tell_settings}
use Rattle.command_words.proofs.MatchLemmas.{matches_tell_fault, matches_found_are_sides, matches_tell_bad_prefix}
use Rattle.command_words.proofs.reading.weigh_command.Goals as goal

pub unwrap-source-requires : goal.unwrap-source-requires
unwrap-source-requires c =
    let tells = c.requires.1 in
    let told = matches_tell_sides tells.arguments c.args.matches.now tells.are_words.well_formed.of_form.as_many tells.told in
    match_told_is_found c.get_str.result _ told.first c.get_str.ensures told.first_told

pub unwrap-dest-requires : goal.unwrap-dest-requires
unwrap-dest-requires c =
    let tells = c.requires.1 in
    let told = matches_tell_sides tells.arguments c.args.matches.now tells.are_words.well_formed.of_form.as_many tells.told in
    match_told_is_found c.get_str-2.result _ told.second c.get_str-2.ensures told.second_told

pub returns-in_err-prefix-clause-err : goal.returns-in_err-prefix-clause-err
returns-in_err-prefix-clause-err c = λ words tells.
    let p = err_from_is_err_and c.from_residual.result c.from_residual.ensures.1 in
    rw (p.1, p.2)
    (matches_tell_bad_prefix words Weigh c.args.matches.now tells c.unwrap-source.result.now c.unwrap-dest.result.now
    c.in_err-prefix.field-0.0
    (matches_found_are_sides words c.args.matches.now tells c.get_str.result c.get_str-2.result c.unwrap-source.result
    c.unwrap-dest.result c.get_str.ensures c.get_str-2.ensures c.unwrap-source.ensures c.unwrap-dest.ensures)
    c.in_err-prefix.ensures.err)

pub returns-in_err-settings-clause-err : goal.returns-in_err-settings-clause-err
returns-in_err-settings-clause-err c = λ words tells.
    let p = err_from_is_err_and c.from_residual-in_err-settings.result c.from_residual-in_err-settings.ensures.1 in
    rw (p.1, p.2)
    (matches_tell_fault words Weigh c.args.matches.now tells c.in_err-settings.field-0.0
    (record {
      source = c.unwrap-source.result.now;
      dest = c.unwrap-dest.result.now;
      sides =
          matches_found_are_sides words c.args.matches.now tells c.get_str.result c.get_str-2.result c.unwrap-source.result
          c.unwrap-dest.result c.get_str.ensures c.get_str-2.ensures c.unwrap-source.ensures c.unwrap-dest.ensures;
      prefix = c.in_ok-prefix.prefix;
      spelled = c.in_ok-prefix.ensures.ok;
    })
    c.in_err-settings.ensures.err)

pub returns-clause-ok : goal.returns-clause-ok
returns-clause-ok c = λ words tells. record {
  arguments = tells.arguments;
  are_words = tells.are_words;
  source = c.unwrap-source.result.now;
  dest = c.unwrap-dest.result.now;
  sides =
      matches_found_are_sides words c.args.matches.now tells c.get_str.result c.get_str-2.result c.unwrap-source.result
      c.unwrap-dest.result c.get_str.ensures c.get_str-2.ensures c.unwrap-source.ensures c.unwrap-dest.ensures;
  spelled = c.in_ok-prefix.ensures.ok;
  set =
      matches_tell_settings Weigh tells.arguments c.args.matches.now c.in_ok-settings.settings tells.told
      c.in_ok-settings.ensures.ok;
}
