pub mod Desks
pub mod Growths
pub mod Leads
pub mod Shapes
pub mod Todos
