pub mod Under
pub mod Feeds
pub mod Firsts
pub mod Walks
