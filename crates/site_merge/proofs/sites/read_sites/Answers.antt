-- What was read of the words and of the stores says how the run ends.
use Rattle.std.proofs.Common.{inl, refl, ap, arith, map, Bor, List, ℕ, Err}
use Rattle.std.proofs.lemmas.List.{length-map}
use Rattle.std.proofs.lemmas.Result.{err_from_is_err_and}
use Rattle.std.proofs.lemmas.Slice.Zip.{AllZip-long}
use Rattle.command_words.specs.{argument_texts}
use Rattle.site_merge.specs.Sites.{SiteReadsAs}
use Rattle.site_merge.specs.declared.status.SiteStatus.TheVariants.{Done}
use Rattle.site_merge.proofs.SiteEndLemmas.{site_end_of_words, site_end_exact, site_end_complete, site_end_one_line}
use Rattle.site_merge.proofs.SiteEndLemmas.{site_end_line_is_faultless, site_end_of_stores, site_end_of_report, site_end_without_memory}
use Rattle.site_merge.proofs.SiteEndLemmas.{site_end_positions}
use Rattle.site_merge.proofs.sites.read_sites.Goals as goal

pub returns-in_err-line-clause-unread : goal.returns-in_err-line-clause-unread
returns-in_err-line-clause-unread g c =
    let p = err_from_is_err_and c.from_residual.result c.from_residual.ensures.1 in
    rw (p.1, p.2)
    (site_end_of_words g.D.Disk (argument_texts c.args.words.now) c.args.disks.now g.met.D.Disk.only_now c.in_err-line.field-0.0
    (λ fault same. c.in_err-line.ensures.bad fault (ap Err same))
    (λ fault has. site_end_exact c.in_err-line.field-0.0 fault (c.in_err-line.ensures.exact fault has))
    (λ settings phi names asked. site_end_complete c.in_err-line.field-0.0 (c.in_err-line.ensures.complete settings phi names asked)))

pub site_report-requires-clause-some : goal.site_report-requires-clause-some
site_report-requires-clause-some g c =
    let line = c.in_ok-line.line in
    let many = c.requires line.settings line.phi (argument_texts line.names.now) c.in_ok-line.ensures.ok in
    omega (arith, many, length-map line.names.now (λ (name : Bor (List ℕ)). name.now), c.in_ok-line.ensures.fit.some)

pub site_report-requires-clause-few : goal.site_report-requires-clause-few
site_report-requires-clause-few g c =
    let line = c.in_ok-line.line in
    let many = c.requires line.settings line.phi (argument_texts line.names.now) c.in_ok-line.ensures.ok in
    omega (arith, many, length-map line.names.now (λ (name : Bor (List ℕ)). name.now), c.in_ok-line.ensures.fit.few)

pub returns-in_err-made-clause-unread : goal.returns-in_err-made-clause-unread
returns-in_err-made-clause-unread g c =
    let line = c.in_ok-line.line in
    let p = err_from_is_err_and c.from_residual-in_err-made.result c.from_residual-in_err-made.ensures.1 in
    rw (p.1, p.2)
    (site_end_of_stores g.D.Disk (argument_texts c.args.words.now) c.args.disks.now c.site_report.new.disks line.settings line.phi
    (argument_texts line.names.now) c.in_err-made.field-0.0
    record {
      asked = c.in_ok-line.ensures.ok;
      one = λ other share more asked. site_end_one_line line other share more (c.in_ok-line.ensures.complete other share more asked);
      faultless = λ fault has. site_end_line_is_faultless line fault (c.in_ok-line.ensures.exact fault has);
      refused = c.in_err-made.ensures.refused;
      must_report = c.in_err-made.ensures.must_report;
      must_refuse = c.in_err-made.ensures.must_refuse;
      left = c.in_err-made.ensures.left;
      disk_fault = c.in_err-made.ensures.fault;
      no_fault = c.in_err-made.ensures.no_fault;
    })

pub text_of-requires : goal.text_of-requires
text_of-requires g c =
    let has = c.in_ok-made.ensures.made in
    let line = c.in_ok-line.line in
    let reads = map g.D.Disk.reads c.args.disks.now in
    let many = c.requires line.settings line.phi (argument_texts line.names.now) c.in_ok-line.ensures.ok in
    let sites = AllZip-long (SiteReadsAs line.settings) reads has.0 has.1 in
    record {
      few_sites = omega (
        arith,
        has.2.as_many,
        sites,
        length-map c.args.disks.now g.D.Disk.reads,
        many,
        length-map line.names.now (λ (name : Bor (List ℕ)). name.now),
        c.in_ok-line.ensures.fit.few,
      );
      few_shards = omega (arith, has.2.shards, c.in_ok-line.ensures.fit.settings_allowed.few);
      as_many = site_end_positions line.settings reads has.0 line.phi c.in_ok-made.made has.1 has.2;
    }

pub returns-in_err-text_of-clause-unread : goal.returns-in_err-text_of-clause-unread
returns-in_err-text_of-clause-unread g c =
    let line = c.in_ok-line.line in
    let p = err_from_is_err_and c.from_residual-in_err-text_of.result c.from_residual-in_err-text_of.ensures.1 in
    rw (p.1, p.2)
    (site_end_without_memory g.D.Disk (argument_texts c.args.words.now) c.args.disks.now c.site_report.new.disks line.settings line.phi
    (argument_texts line.names.now) c.in_ok-made.made
    record {
      asked = c.in_ok-line.ensures.ok;
      one = λ other share more asked. site_end_one_line line other share more (c.in_ok-line.ensures.complete other share more asked);
      faultless = λ fault has. site_end_line_is_faultless line fault (c.in_ok-line.ensures.exact fault has);
      refused = c.in_ok-made.ensures.refused;
      must_report = c.in_ok-made.ensures.must_report;
      must_refuse = c.in_ok-made.ensures.must_refuse;
      left = c.in_ok-made.ensures.left;
      disk_fault = c.in_ok-made.ensures.fault;
      no_fault = c.in_ok-made.ensures.no_fault;
    })

pub returns-clause-text : goal.returns-clause-text
returns-clause-text g c =
    let has = c.in_ok-made.ensures.made in
    let line = c.in_ok-line.line in (
      c.in_ok-made.made,
      record {
        settings = line.settings;
        phi = line.phi;
        names = argument_texts line.names.now;
        asked = c.in_ok-line.ensures.ok;
        sites = has.0;
        are_read = has.1;
        is_report = has.2;
        sound = c.in_ok-made.ensures.sound;
      },
      c.in_ok-text_of.ensures,
    )

pub returns-clause-read : goal.returns-clause-read
returns-clause-read g c =
    let line = c.in_ok-line.line in
    site_end_of_report g.D.Disk (argument_texts c.args.words.now) c.args.disks.now c.site_report.new.disks line.settings line.phi
    (argument_texts line.names.now) c.in_ok-made.made Done (inl refl) record {
      asked = c.in_ok-line.ensures.ok;
      one = λ other share more asked. site_end_one_line line other share more (c.in_ok-line.ensures.complete other share more asked);
      faultless = λ fault has. site_end_line_is_faultless line fault (c.in_ok-line.ensures.exact fault has);
      refused = c.in_ok-made.ensures.refused;
      must_report = c.in_ok-made.ensures.must_report;
      must_refuse = c.in_ok-made.ensures.must_refuse;
      left = c.in_ok-made.ensures.left;
      disk_fault = c.in_ok-made.ensures.fault;
      no_fault = c.in_ok-made.ensures.no_fault;
    }
