use Rattle.std.proofs.Common.{◌*◌, arith}
use Rattle.sk_odds.proofs.Products.{high_start, high_more, high_found}
use Rattle.sk_odds.proofs.factors.is_high.Goals as goal

pub multiply-init : goal.multiply-init
multiply-init c = high_start c.args.d 1152921504606846976 c.args.factor 4294967296 c.args.k c.from-product.result (omega (arith, c.from-product.ensures))

pub multiply-preserved : goal.multiply-preserved
multiply-preserved c =
    high_more (c.args.d * 1152921504606846976) c.args.k c.multiply.i c.args.factor c.multiply.product 4294967296 c.from-divisor.result c.from.result (omega arith) (omega arith) (omega arith) c.multiply.invariant

pub returns : goal.returns
returns c = λ is. high_found c.args.d 1152921504606846976 c.args.k c.multiply.i c.args.factor 4294967296 c.multiply.product (omega arith) is c.multiply.invariant
