use Rattle.sk_desks.proofs.EvenLaws.{first_none, few_up_to, first_up_to, even_up_to}
use Rattle.sk_desks.proofs.even.first_of_tenants.Goals as goal

pub returns-in_default-clause-first : goal.returns-in_default-clause-first
returns-in_default-clause-first c = first_none c.args.names.now c.args.text.now

pub returns-clause-first : goal.returns-clause-first
returns-clause-first c = first_up_to c.args.names.now c.args.text.now c.args.most c.in-Some.shape.len c.bytes_of_shape-bytes.result c.bytes_of_shape-bytes.ensures

pub returns-clause-even : goal.returns-clause-even
returns-clause-even c = even_up_to c.args.names.now c.args.text.now c.args.most c.in-Some.shape.len c.bytes_of_shape-bytes.result c.bytes_of_shape-bytes.ensures

pub returns-clause-few : goal.returns-clause-few
returns-clause-few c = few_up_to c.args.names.now c.args.text.now c.args.most c.in-Some.shape.len c.bytes_of_shape-bytes.result c.bytes_of_shape-bytes.ensures
