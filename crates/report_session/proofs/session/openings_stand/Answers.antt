use Rattle.std.proofs.Common.{subst, sym}
use Rattle.std.specs.Prelude.{IfSome}
use Rattle.report_session.proofs.OpeningShardLemmas.{HasAlikeOpeningShards, opening_shards_are_shards}
use Rattle.report_session.proofs.OpeningShardLemmas.{opening_shards_have_shape}
use Rattle.report_session.proofs.OpeningShardLemmas.{opening_shards_count, opening_shards_have_positions}
use Rattle.report_session.proofs.OpeningShardLemmas.{opening_shards_represent, opening_shards_before_ends}
use Rattle.report_session.specs.Session.{asked_shape}
use Rattle.report_session.proofs.session.openings_stand.Goals as goal

pub returns-in-None : goal.returns-in-None
returns-in-None c =
    let shards = c.shards-shards.ensures.bounded in
    let cut_alike = subst (λ base. IfSome base HasAlikeOpeningShards) (sym c.in-None.is) tt in
    record {
      shards =
          opening_shards_are_shards (asked_shape c.args.settings.now) c.args.dealt.now c.args.base.now shards.some shards.few c.requires cut_alike;
      many = opening_shards_count (asked_shape c.args.settings.now) c.args.dealt.now c.args.base.now c.requires;
      alike = opening_shards_have_shape (asked_shape c.args.settings.now) c.args.dealt.now c.args.base.now shards.some c.requires cut_alike;
      starts = opening_shards_before_ends (asked_shape c.args.settings.now) c.args.dealt.now c.args.base.now c.requires;
      positions = opening_shards_have_positions (asked_shape c.args.settings.now) c.args.dealt.now c.args.base.now shards c.requires;
      represents = opening_shards_represent (asked_shape c.args.settings.now) c.args.dealt.now c.args.base.now c.shards_stand.ensures.begins;
    }

pub returns-in-Some : goal.returns-in-Some
returns-in-Some c =
    let shards = c.shards-shards.ensures.bounded in
    let cut_alike = subst (λ base. IfSome base HasAlikeOpeningShards) (sym c.in-Some.is) c.shards-kept.ensures.kept.alike in
    record {
      shards =
          opening_shards_are_shards (asked_shape c.args.settings.now) c.args.dealt.now c.args.base.now shards.some shards.few c.requires cut_alike;
      many = opening_shards_count (asked_shape c.args.settings.now) c.args.dealt.now c.args.base.now c.requires;
      alike = opening_shards_have_shape (asked_shape c.args.settings.now) c.args.dealt.now c.args.base.now shards.some c.requires cut_alike;
      starts = opening_shards_before_ends (asked_shape c.args.settings.now) c.args.dealt.now c.args.base.now c.requires;
      positions = opening_shards_have_positions (asked_shape c.args.settings.now) c.args.dealt.now c.args.base.now shards c.requires;
      represents = opening_shards_represent (asked_shape c.args.settings.now) c.args.dealt.now c.args.base.now c.shards_stand.ensures.begins;
    }
