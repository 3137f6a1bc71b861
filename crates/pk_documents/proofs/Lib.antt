pub mod DocumentValues
pub mod KindRows
pub mod KindsApart
pub mod LawfulKinds
pub mod PartsStand
pub mod RequestParts
