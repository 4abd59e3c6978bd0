-- The sink took the whole text, or a strict beginning of it.
use Rattle.std.proofs.Common.{◌∙◌, subst}
use Rattle.std.specs.Io.KnownBytes.{Appends}
use Rattle.outside_io.specs.{AppendsPart}
use Rattle.command_words.specs.{argument_texts}
use Rattle.site_merge.proofs.SiteEndLemmas.{site_end_written, site_end_written_in_part}
use Rattle.site_merge.proofs.sites.run_sites.Goals as goal

pub returns-in-Ok-write_all : goal.returns-in-Ok-write_all
returns-in-Ok-write_all g c =
    let has = c.in-Ok.ensures.text in
    site_end_written g.D.Disk g.K.Sink (argument_texts c.args.words.now) c.args.disks.now c.read_sites.new.disks c.args.sink.now
    c.write_all.new.sink has.0 has.1 c.in-Ok.ensures.read
    (subst (Appends (g.K.Sink.taken c.args.sink.now) (g.K.Sink.taken c.write_all.new.sink)) (c.deref.ensures.value ∙ has.2)
    c.in-Ok-write_all.ensures.whole) c.in-Ok-write_all.ensures.cause.kept

pub returns : goal.returns
returns g c =
    let has = c.in-Ok.ensures.text in
    site_end_written_in_part g.D.Disk g.K.Sink (argument_texts c.args.words.now) c.args.disks.now c.read_sites.new.disks c.args.sink.now
    c.write_all.new.sink has.0 has.1 c.in-Ok.ensures.read
    (subst (AppendsPart (g.K.Sink.taken c.args.sink.now) (g.K.Sink.taken c.write_all.new.sink)) (c.deref.ensures.value ∙ has.2)
    c.in-Err-write_all.ensures.beginning) c.in-Err-write_all.ensures.cause.failed
