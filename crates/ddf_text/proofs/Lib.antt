mod Counts
mod Listings
