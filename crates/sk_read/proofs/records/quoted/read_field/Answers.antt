use Rattle.std.proofs.Common.{◌++◌, slice_range}
use Rattle.sk_read.proofs.QuotedRecords.{if_ok, plain_field, quoted_field, whole_field, kept_more}
use Rattle.sk_read.proofs.records.quoted.read_field.Goals as goal

pub returns-then-text-start-ne34-clause-read : goal.returns-then-text-start-ne34-clause-read
returns-then-text-start-ne34-clause-read c =
    let text = c.args.text.now in
    let start = c.args.start in
    if_ok c.read_plain.result _ _ (λ end read. (slice_range text start end, read.0, plain_field text start end read.1 c.requires c.if-text-start-ne34.true)) c.read_plain.ensures.read

pub returns-then-ends_field-clause-read : goal.returns-then-ends_field-clause-read
returns-then-ends_field-clause-read c =
    let leaves = c.in_ok-close.ensures.read in
    (leaves.0, leaves.1, whole_field c.args.text.now c.args.start c.in_ok-close.close leaves.0 c.requires c.if-text-start-ne34.false leaves.2 (c.ends_field.ensures c.if-ends_field.true))

pub returns-clause-read : goal.returns-clause-read
returns-clause-read c =
    let text = c.args.text.now in
    let close = c.in_ok-close.close in
    let leaves = c.in_ok-close.ensures.read in
    if_ok c.read_plain-2.result _ _ (λ end read. (
      leaves.0 ++ slice_range text close end,
      kept_more c.args.keeps c.args.held.now.items c.read_quoted.new.held.items c.read_plain-2.new.held.items leaves.0 (slice_range text close end) leaves.1 read.0,
      quoted_field text c.args.start close end leaves.0 c.requires c.if-text-start-ne34.false leaves.2 read.1,
    )) c.read_plain-2.ensures.read
