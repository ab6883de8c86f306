pub use Rattle.sk_model.specs.Causes
pub use Rattle.sk_lines.specs.Fractions
pub mod Decimal
pub mod Rounded
pub mod Account
pub mod Line
pub mod Inside
