use Rattle.std.proofs.Common.{◌≡◌, ◌++◌, ℕ, List, Result, Ok, Err, IfOk, sym, ap, subst}
use Rattle.sk_theta.specs.Kept.{Sketch}
use Rattle.sk_snap.specs.History.{entries_in}
use Rattle.sk_snap.specs.Versions.{items_in}
use Rattle.sk_window.specs.Intervals.{StandForEach, IsReplyOf, all_items}
use Rattle.sk_window.specs.Panes.{PanesState}
use Rattle.uses.specs.Replies.{RepliesNow}
use Rattle.uses.proofs.panes.reply_now.Goals as goal

if_ok_so : {T E : Type 0} (o : Result T E) (P Q : T → Type 0) → ((x : T) → P x → Q x) → IfOk o P → IfOk o Q
if_ok_so (Ok x) P Q so holds = so x holds
if_ok_so (Err e) P Q so holds = tt

pub returns-clause-reply : goal.returns-clause-reply
returns-clause-reply g c = λ lists each.
    let p = c.args.panes.now in
    let us = c.args.updaters.now in
    let q = c.learn.new.self in
    let s = c.reply.new.self.learnt in
    let k : q.shape.k ≡ p.shape.k = ap (λ (z : PanesState). z.shape.k) c.learn.ensures.stays in
    let closed : q.closed ≡ p.closed = ap (λ (z : PanesState). z.closed) c.learn.ensures.stays in
    let its : StandForEach q.shape.k q.closed lists = subst (λ (n : ℕ). StandForEach n q.closed lists) (sym k) (subst (λ (ss : List Sketch). StandForEach p.shape.k ss lists) (sym closed) each) in
    if_ok_so c.reply.result (IsReplyOf q.shape.k (all_items lists ++ items_in s.known)) (RepliesNow p.shape.k us lists)
    (λ reply is. record {
      list = entries_in s.known;
      reply_is = subst (λ (n : ℕ). IsReplyOf n (all_items lists ++ items_in s.known) reply) k is;
      lacks = c.replies_lack_two_buffers.ensures p.learnt q.learnt s us c.learn.ensures.learns c.reply.ensures.goes;
    })
    (c.reply.ensures.reply lists its)
