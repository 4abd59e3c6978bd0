-- The paths that `clap` found are those that the words name.
use Rattle.std.proofs.Common.{[], arith, codes, subst, sym}
use Rattle.command_words.specs.FormNames.{form_of}
use Rattle.command_words.specs.PathTexts.{NamesPath}
use Rattle.command_words.proofs.MatchLemmas.{matches_tell_named_path}
use Rattle.command_words.proofs.path_texts.paths_in.Goals as goal

pub returns-clause-ok : goal.returns-clause-ok
returns-clause-ok c =
    let line = c.in_ok-line.line in
    let tells = c.in_ok-line.ensures.told in
    let names = matches_tell_named_path line.word tells.arguments line.matches in
    let is_named = NamesPath (form_of line.word) tells.arguments in
    record {
      command = line.word;
      arguments = tells.arguments;
      are_words = tells.are_words;
      capture =
          subst (is_named (codes "capture") (codes "-")) (sym c.in_ok-of.ensures)
          (names _ _ _ tells.told (omega arith) c.path_in-capture.ensures.given c.path_in-capture.ensures.absent);
      report =
          subst (is_named (codes "report") []) (sym c.in_ok-of-2.ensures)
          (names _ _ _ tells.told (omega arith) c.path_in-report.ensures.given c.path_in-report.ensures.absent);
      store =
          subst (is_named (codes "store") []) (sym c.in_ok-of-3.ensures)
          (names _ _ _ tells.told (omega arith) c.path_in-store.ensures.given c.path_in-store.ensures.absent);
    }
