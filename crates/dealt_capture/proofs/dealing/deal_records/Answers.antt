use Rattle.std.proofs.Common.{◌∙◌, ap, length}
use Rattle.std.proofs.lemmas.List.FromFn.{length-map-range_with_len}
use Rattle.dealt_capture.proofs.dealing.deal_records.Goals as goal

pub returns-clause-shards : goal.returns-clause-shards
returns-clause-shards g c =
    ap length c.in_ok-lists.ensures.dealt.parted ∙ length-map-range_with_len _ 0 c.args.settings.now.shards
