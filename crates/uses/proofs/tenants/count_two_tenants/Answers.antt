use Rattle.std.proofs.Common.{◌≡◌, ◌≢◌, ◌∷◌, [], ap, ◌∙◌, arith}
use Rattle.sk_tenant.specs.Hosts.{HasTakenInDesk, WasUsed}
use Rattle.uses.specs.Adds.{adds_of}
use Rattle.uses.proofs.AddsLaws.{two_desks, new_desks, word_of_two}
use Rattle.uses.proofs.tenants.count_two_tenants.Goals as goal

pub returns : goal.returns
returns g c =
    let opened = c.in_ok-hosts.field-0.hosts in let shape = c.args.shape.now in let quota = c.args.quota in let made = c.in_ok-hosts.ensures in
    let first = c.in-Some-Some.desk in let last = c.in-Some-Some.last in
    let h2 = c.drain-2.new.self in let h3 = c.ask.new.self in let h4 = c.ask-2.new.self in
    let adds = adds_of c.args.first.now c.in_ok-first.first.items in let more = adds_of c.args.second.now c.in_ok-second.second.items in
    let desks : c.in_ok-hosts.field-0.desks.items ≡ first ∷ last ∷ [] =
    two_desks c.in_ok-hosts.field-0.desks.items c.pop.new.self.items c.pop-2.new.self.items first last c.in-Some-Some.ensures.items c.in-Some-Some.ensures'.items (made.count ∙ c.requires.desks) in
    let new = new_desks opened shape quota c.in_ok-hosts.field-0.desks.items first last desks made.desks in
    let same0 = c.a_desk_stays_of_its_tenants.ensures.same first c.add_each.new.desk adds c.in_ok-first.ensures in
    let same1 = c.a_desk_stays_of_its_tenants.ensures.same last c.add_each-2.new.desk more c.in_ok-second.ensures in
    let apart : c.add_each-2.new.desk.number ≢ c.add_each.new.desk.number = λ same. absurd (omega (arith, same, same0.number, same1.number, new.0.number_is, new.1.number_is)) in
    let taken0 : HasTakenInDesk h2 c.add_each.new.desk = c.drain-2.ensures.taken_in in
    let taken1 : HasTakenInDesk h2 c.add_each-2.new.desk = c.drain-2.ensures.others c.add_each-2.new.desk apart c.drain.ensures.taken_in in
    let used0 : WasUsed opened shape quota h2 0 adds = record { first = first; last = c.add_each.new.desk; new = new.0; done = c.in_ok-first.ensures; taken_in = taken0 } in
    let used1 : WasUsed opened shape quota h2 1 more = record { first = last; last = c.add_each-2.new.desk; new = new.1; done = c.in_ok-second.ensures; taken_in = taken1 } in
    let later0 : WasUsed opened shape quota h3 0 adds = record { first = first; last = c.add_each.new.desk; new = new.0; done = c.in_ok-first.ensures; taken_in = c.ask.ensures.taken_in c.add_each.new.desk taken0 } in
    let later1 : WasUsed opened shape quota h3 1 more = record { first = last; last = c.add_each-2.new.desk; new = new.1; done = c.in_ok-second.ensures; taken_in = c.ask.ensures.taken_in c.add_each-2.new.desk taken1 } in
    let k2 : h2.k ≡ shape.k = ap (λ h. h.k) c.drain-2.ensures.drains.stays ∙ ap (λ h. h.k) c.drain.ensures.drains.stays ∙ made.hosts.k_is in
    let n2 : h2.n ≡ 2 = ap (λ h. h.n) c.drain-2.ensures.drains.stays ∙ ap (λ h. h.n) c.drain.ensures.drains.stays ∙ made.hosts.n_is ∙ c.requires.desks in
    let k3 : h3.k ≡ shape.k = ap (λ h. h.k) c.ask.ensures.asked.stays ∙ k2 in
    let n3 : h3.n ≡ 2 = ap (λ h. h.n) c.ask.ensures.asked.stays ∙ n2 in
    record {
      first = word_of_two opened h2 h3 shape quota 0 c.ask.result adds more (c.the_last_word_is_of_all_calls.ensures opened h2 h3 shape quota 0 c.ask.result) k2 n2 used0 used1 c.ask.ensures.asked;
      second = word_of_two opened h3 h4 shape quota 1 c.ask-2.result adds more (c.the_last_word_is_of_all_calls.ensures opened h3 h4 shape quota 1 c.ask-2.result) k3 n3 later0 later1 c.ask-2.ensures.asked;
    }
