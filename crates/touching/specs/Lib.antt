pub mod Lists
pub mod Touch
pub mod Components
pub mod Promise
pub mod Entry
pub mod Call
