pub mod HeaderRoom
pub mod KeptValues
pub mod OpenInDer
pub mod OpenMembers
pub mod OpenReadings
pub mod TextValues
