-- Edits of two different sets: what the other set answers, and either order.
pub mod Framing
pub mod Placing
pub mod Changes
pub mod Looking
pub mod Standing
pub mod Growing
pub mod Orders
pub mod Examples
