-- The sketch of a tenant in either form.
use Rattle.sk_theta.specs.Kept.{Sketch}
use Rattle.sk_tenant.specs.declared.sketch.TenantTheta.{TenantTheta}
use Rattle.sk_tenant.specs.declared.sketch.TenantTheta.TheVariants.{Sorted, Heap}

-- its k and the hashes that it keeps
abbrev pub sketch_of : TenantTheta → Sketch
sketch_of (Sorted sketch) = sketch
sketch_of (Heap sketch) = sketch
